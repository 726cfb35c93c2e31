-- The returns of `compare_in` and of `number_in`: what reading and checking lends is what is compared, and numbered.
use mathlib.Core.Path.{◌≡◌, ap}
use Prim.Native.Nat.{ℕ, ◌<◌, ◌≤◌}
use Rattle.std.specs.Prelude.{Ok, Err}
use Rattle.std.specs.Prelude as std
use mathlib.Core.List.{List}
use native.Mathlib.Omega.{arith}
use lib.ListN.{length}
use Rattle.meaning.specs.Problem.{Problem}
use Rattle.meaning.specs.Read.{Answer, got}
use Rattle.meaning.specs.Readable.{WithinLimits}
use Rattle.table.specs.Whole.{table_room}
use Rattle.numbers.specs.Numbering.{Numbered, Numerable}
use Rattle.numbers.proofs.ProblemTable.{table_numerable, table_short}
use Rattle.accept.specs.Acceptance.{AcceptsLent, Stands}
use Rattle.accept.specs.declared.Standing.{Standing}
use Rattle.accept.proofs.AcceptanceLaws.{lent_refused, lent_accepted}
use Rattle.comparing.specs.Comparing.{Nested, Present, Compares}
use Rattle.comparing.specs.NumberedNodes.{NumbersNodes}
use Rattle.tokens.specs.declared.same.Compared.{Compared}
use Rattle.refusal.specs.declared.Refusal.{Refusal}
use Rattle.comparing.proofs.Meaning.{table_nested, compared_means}
use Rattle.comparing.proofs.NumberMeaning.{front_means}

-- x is the answer to the bytes
module _ (x : Answer Problem) where
  module _ (r : Refusal) (done : AcceptsLent x (Err r)) where
    pub answers_refused : (a b : ℕ) → Compares x a b (Err r)
    unfolding Compares
    answers_refused a b = lent_refused x r done

    pub numbers_refused : (ns : List ℕ) → NumbersNodes x ns (Err r)
    unfolding NumbersNodes
    numbers_refused ns = lent_refused x r done

  module _ (st : Standing) (done : AcceptsLent x (Ok st)) where
    accepted : (p : Problem) × (x ≡ got p) × Stands p st
    accepted = lent_accepted x st done

    within : WithinLimits accepted.0
    within = accepted.2.accepted.within

    -- What the calls require of the table that is lent
    pub lent_nested : Nested st.expressions.now
    lent_nested = rw accepted.2.expressions (table_nested accepted.0 within)

    pub lent_numerable : Numerable st.expressions.now
    lent_numerable = rw accepted.2.expressions (table_numerable accepted.0 within)

    pub lent_short : length st.expressions.now < table_room
    lent_short = rw accepted.2.expressions (table_short accepted.0 within)

    pub answers_compared : (a b : ℕ) (r : std.Option Compared) → Present st.expressions.now a b r → Compares x a b (Ok r)
    unfolding Compares
    answers_compared a b r h = (accepted.0, accepted.1, compared_means accepted.0 within a b r (rw accepted.2.expressions at h))

    pub answers_numbered : (ns : List ℕ) → table_room ≤ length ns → Numbered st.expressions.now ns
        → NumbersNodes x ns (Ok (length st.expressions.now))
    unfolding NumbersNodes
    answers_numbered ns room made =
        let few : length st.expressions.now ≤ length ns = omega (arith, lent_short) in (
          accepted.0,
          accepted.1,
          few,
          front_means accepted.0 within ns (length st.expressions.now) (ap length accepted.2.expressions) few
              (rw accepted.2.expressions at made),
        )
