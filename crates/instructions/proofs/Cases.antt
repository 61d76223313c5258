-- By cases of a test.
use Rattle.std.specs.Prelude.{if◌then◌else◌}
use mathlib.Core.Bool.{Bool, true, false}
use mathlib.Core.Path.{◌≡◌, refl, subst}

pub by_test : {A : Type 0} (t : Bool) → (t ≡ true → A) → (t ≡ false → A) → A
by_test true f g = f refl
by_test false f g = g refl

pub if_elim : {A : Type 0} (P : A → Type 0) (t : Bool) {x y : A} → (t ≡ true → P x) → (t ≡ false → P y) → P (if t then x else y)
if_elim P true f g = f refl
if_elim P false f g = g refl

-- two choices by tests that agree
pub if_both : {A B : Type 0} (P : A → B → Type 0) (t u : Bool) {x y : A} {z w : B} → t ≡ u → (t ≡ true → P x z) → (t ≡ false → P y w)
    → P (if t then x else y) (if u then z else w)
if_both P true u {x} {y} {z} {w} e f g = subst (λ (v : Bool). P x (if v then z else w)) e (f refl)
if_both P false u {x} {y} {z} {w} e f g = subst (λ (v : Bool). P y (if v then z else w)) e (g refl)
