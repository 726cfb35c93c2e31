-- What a call that writes T-13's problem comes to, by `LongestCall` alone.
--   Delivered      a call that does not refuse: n is from 1 to 256, and the buffer begins with the problem's bytes
--   roomy_writes   with room for any problem it does not refuse
--   refused_stays  a refused call leaves the buffer
use mathlib.Core.Path.{◌≡◌, refl, ap, sym, ◌∙◌}
use Prim.Native.Nat.{ℕ, ◌≤◌}
use native.Mathlib.Omega.{arith}
use lib.ListN.{length, drop, take}
use lib.Seq.{take_at}
use Rattle.meaning.specs.Limits.{largest_problem}
use Rattle.meaning.specs.Basics.{Bytes}
use Rattle.meaning.specs.Read.{Answer, got, refused}
use Rattle.meaning.specs.Longest.{LongestCall, buffer_after, length_of, longest_bytes, longest_into, over}
use Rattle.meaning.proofs.Lists.{never}
use Rattle.longest.specs.Writing.{Nodes}
use Rattle.longest.proofs.IntoLaws.{into_by, into_room, not_outside}
use Rattle.longest.proofs.LongestAccepted.{longest_accepted}

pub record Delivered (n k : ℕ) (out : Bytes) : Type 0 where
  pub nodes : Nodes n
  pub front : take k out ≡ longest_bytes n

pub delivered : {n k : ℕ} {buffer after : Bytes} → LongestCall n buffer (got k) after → Delivered n k after
delivered {n} {k} {buffer} {after} c =
    into_by n buffer (λ a. got k ≡ length_of a → after ≡ buffer_after buffer a → Delivered n k after) (λ e f. never (cc)) (λ e f. never (cc))
    written c.answers c.leaves
  where
    written : Nodes n → got k ≡ got (length (longest_bytes n)) → after ≡ over (longest_bytes n) buffer → Delivered n k after
    written h e f =
        let long : k ≡ length (longest_bytes n) = cc in
        record { nodes = h; front = ap (take k) f ∙ take_at (longest_bytes n) (drop (length (longest_bytes n)) buffer) k (sym long) }

pub roomy_writes : {n : ℕ} {buffer after : Bytes} {a : Answer ℕ} → Nodes n → largest_problem ≤ length buffer → LongestCall n buffer a after
    → (k : ℕ) × (a ≡ got k)
roomy_writes {n} {buffer} h room c =
    let fits = (longest_accepted n h).within.input in
    (length (longest_bytes n), c.answers ∙ ap length_of (into_room n buffer (not_outside n h) (omega arith)))

stays : (buffer : Bytes) (r : ℕ) (a : Answer Bytes) → refused r ≡ length_of a → buffer_after buffer a ≡ buffer
stays buffer r (got s) e = never (cc)
stays buffer r (refused k) e = refl

pub refused_stays : {n r : ℕ} {buffer after : Bytes} → LongestCall n buffer (refused r) after → after ≡ buffer
refused_stays {n} {r} {buffer} c = c.leaves ∙ stays buffer r (longest_into n buffer) c.answers
