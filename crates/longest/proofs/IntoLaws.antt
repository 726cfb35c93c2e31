-- `longest_into` by its cases, and the numbers of nodes that are written for.
--   inside     those for which the test of 28 fails are 1 to 256
--   into_by    what holds of 28, of 29, and for such a number of the problem's bytes, holds of what is written into a buffer
use mathlib.Core.Path.{◌≡◌, sym, ◌∙◌, subst}
use Prim.Native.Nat.{ℕ, ◌<◌, ◌≤◌}
use mathlib.Core.Bool.{true, false}
use borrow.Author.Tests.{ltb-false, ltb-true}
use lib.Dec.{ltb}
use lib.ListN.{length}
use Rattle.meaning.specs.Limits.{max_face_nodes}
use Rattle.meaning.specs.Basics.{Bytes}
use Rattle.meaning.specs.Read.{Answer, got, refused}
use Rattle.meaning.specs.Longest.{is_outside, longest_bytes, longest_into}
use Rattle.meaning.proofs.Lists.{by_test, choose_false, choose_true, or-false}
use Rattle.meaning.proofs.ShiftLaws.{ltb_no, ltb_yes}
use Rattle.longest.specs.Writing.{Nodes}

pub inside : (n : ℕ) → is_outside n ≡ false → Nodes n
inside n e =
    let (low, high) = or-false (ltb n 1) (ltb max_face_nodes n) e in
    record { some = ltb-false n 1 low; few = ltb-false max_face_nodes n high }

pub not_outside : (n : ℕ) → Nodes n → is_outside n ≡ false
not_outside n h = rw (ltb_no n 1 h.some, ltb_no max_face_nodes n h.few)

module _ (n : ℕ) (buffer : Bytes) where
  pub into_outside : is_outside n ≡ true → longest_into n buffer ≡ refused 28
  unfolding longest_into
  into_outside e = choose_true _ _ e

  pub into_short : is_outside n ≡ false → length buffer < length (longest_bytes n) → longest_into n buffer ≡ refused 29
  unfolding longest_into
  into_short e h = choose_false _ _ e ∙ choose_true _ _ (ltb_yes (length buffer) (length (longest_bytes n)) h)

  pub into_room : is_outside n ≡ false → length (longest_bytes n) ≤ length buffer → longest_into n buffer ≡ got (longest_bytes n)
  unfolding longest_into
  into_room e h = choose_false _ _ e ∙ choose_false _ _ (ltb_no (length buffer) (length (longest_bytes n)) h)

  pub into_by : (P : Answer Bytes → Type 0) → P (refused 28) → P (refused 29) → (Nodes n → P (got (longest_bytes n))) → P (longest_into n buffer)
  into_by P outside short written =
      by_test (is_outside n) (λ e. subst P (sym (into_outside e)) outside)
      (λ e.
      by_test (ltb (length buffer) (length (longest_bytes n)))
      (λ l. subst P (sym (into_short e (ltb-true (length buffer) (length (longest_bytes n)) l))) short)
      (λ l. subst P (sym (into_room e (ltb-false (length buffer) (length (longest_bytes n)) l))) (written (inside n e))))
