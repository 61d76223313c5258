-- Laws of the log's buffer.
use Rattle.std.specs.Prelude.{◌≡◌, ◌⊎◌, ℕ, ◌+◌, ◌<◌, ◌≤◌, ltb, List, ◌++◌, length}
use mathlib.Core.Logic.{⊎_elim, inl, inr}
use mathlib.Core.Path.{sym, ap, ◌∙◌}
use native.Mathlib.Nat.{zero-add}
use native.Mathlib.Omega.{arith}
use lib.ListN.{length-append}
use lib.Seq.{sets, length-sets}
use borrow.Author.Tests.{ltb-true, ltb-false}
use Rattle.instructions.proofs.Cases.{by_test}
use Rattle.memory.specs.Log.{entry_of, words, Written, written, written_of}
use Rattle.memory.specs.Parts.{pushed, Logs}
use Rattle.memory.specs.declared.log.Purpose.{Purpose}
use Rattle.memory.proofs.Stores.{sets_append, sets_front}

module _ {b₀ b : List ℕ} {k₀ k : ℕ} {l : List ℕ} (h : Logs b₀ k₀ b k l) where
  fits_or_past : (k₀ + length l ≤ length b₀) ⊎ (length b₀ < k₀ + length l)
  fits_or_past = by_test (ltb (length b₀) (k₀ + length l)) (λ t. inr (ltb-true _ _ t)) (λ f. inl (ltb-false _ _ f))

  -- a read logged
  pub logs_pushed : (p : Purpose) (a w : ℕ) {k' : ℕ} {b' : List ℕ} → written k' b' ≡ pushed p a w (written k b) → Logs b₀ k₀ b' k' (l ++ entry_of p a w)
  logs_pushed p a w {k'} {b'} e =
      by_test (ltb (length b) (k + 2))
      (λ t.
      let full : length b < k + 2 = ltb-true _ _ t in
      let same : written k' b' ≡ written k b = e ∙ rw t in
      let s = h.size in
      record {
        size = ap (λ (x : Written). length x.buffer) same ∙ h.size;
        count = λ fits. let two = length-append l (entry_of p a w) in let c = h.count (omega arith) in omega arith;
        stored = λ fits. let two = length-append l (entry_of p a w) in let c = h.count (omega arith) in absurd (omega arith);
        past = λ over. let c = ap (λ (x : Written). x.count) same in omega arith;
      })
      (λ f.
      let room : k + 2 ≤ length b = ltb-false _ _ f in
      let more : written k' b' ≡ written (k + 2) (sets b k (entry_of p a w)) = e ∙ rw f in
      let s = h.size in
      let two = length-append l (entry_of p a w) in
      let counted = ap (λ (x : Written). x.count) more in
      let put = ap (λ (x : Written). x.buffer) more in
      let within : k₀ + length l ≤ length b₀ = ⊎_elim (λ fits. fits) (λ past. let low = h.past past in absurd (omega arith)) fits_or_past in
      let c = h.count within in
      record {
        size = ap length put ∙ (length-sets b k (entry_of p a w) ∙ h.size);
        count = λ fits. omega arith;
        stored = λ fits. put ∙ rw (c, h.stored within) (sym (sets_append l (entry_of p a w) b₀ k₀));
        past = λ over. omega arith;
      })

-- what the run leaves of the buffer
pub logs_kept : {b₀ b : List ℕ} {k : ℕ} {l : List ℕ} → Logs b₀ 0 b k l → length l ≤ length b₀ → written k b ≡ written_of (words (length b₀)) l b₀
logs_kept {b₀} {l = l} h w =
    let fits : 0 + length l ≤ length b₀ = omega arith in
    rw (h.count fits, h.stored fits, sets_front l b₀ w, zero-add)
