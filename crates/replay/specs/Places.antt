-- Need not be believed: replay, proved by it, promises its definition without it.
-- What the log in memory's place promises. Nothing here says what a replay is.
use Rattle.std.specs.Prelude.{ℕ, Bool, true, false, ◌&&◌, List, [], ◌∷◌, ◌≡◌, refl, eqb, if◌then◌else◌, ◌%◌}
use Rattle.memory.specs.Log.{entry_of}
use Rattle.memory.specs.declared.log.Purpose.{Purpose}

-- whether the second list begins with the first
unfoldable pub begins : List ℕ → List ℕ → Bool
begins [] k = true
begins (x ∷ l) [] = false
begins (x ∷ l) (y ∷ k) = if eqb x y then begins l k else false

-- nothing is read at first
pub begun : (b : Bool) (k : List ℕ) → b ≡ (b && begins [] k)
unfolding begins
begun true k = refl
begun false k = refl

-- whether two log words are the read
unfoldable pub is_entry : Purpose → ℕ → ℕ → ℕ → Bool
is_entry purpose address named value = begins (entry_of purpose address (value % 65536)) (named ∷ value ∷ [])
