-- All constraints at once: the forest of filled patterns equals the forest of expressions exactly when "each filled pattern equals its
-- expression".
use mathlib.Core.Path.{◌≡◌, refl}
use mathlib.Core.Logic.{◌↔◌}
use mathlib.Core.List.{[], ◌∷◌}
use Rattle.meaning.specs.Problem.{Problem, patterns, expressions}
use Rattle.meaning.specs.Filling.{Filling, filled}
use Rattle.meaning.specs.Textbook.{Satisfies}
use Rattle.meaning.proofs.ShiftLaws.{pair_eq}
use Rattle.meaning.proofs.Punching.{graft_eq}

each_met : (σ : Filling) (p : Problem) → filled σ (patterns p) ≡ expressions p → Satisfies p σ
each_met σ [] e = tt
each_met σ (c ∷ cs) e = (pair_eq (cc) (cc), each_met σ cs (cc))

met_each : (σ : Filling) (p : Problem) → Satisfies p σ → filled σ (patterns p) ≡ expressions p
met_each σ [] a = refl
met_each σ (c ∷ cs) a = graft_eq a.0 (met_each σ cs a.1)

pub meets_each : (σ : Filling) (p : Problem) → (filled σ (patterns p) ≡ expressions p) ↔ Satisfies p σ
meets_each σ p = (each_met σ p, met_each σ p)
