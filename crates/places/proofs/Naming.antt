-- What a value names is what `meaning` says that it names, and the first place is the start.
use mathlib.Core.Path.{◌≡◌, refl, ap, sym, ◌∙◌}
use mathlib.Core.Logic.{◌↔◌}
use mathlib.Core.Bool.{true, false, true≢false}
use mathlib.Core.List.{List, [], map}
use mathlib.Core.Option.{none}
use Prim.Native.Nat.{ℕ}
use lib.ListN.{replicate}
use Rattle.std.specs.Prelude.{Ok, Err, Some, None}
use Rattle.std.specs.Prelude as std
use Rattle.meaning.specs.Limits.{max_functions}
use Rattle.meaning.specs.Basics.{is_some, ◌∈◌}
use Rattle.meaning.specs.Problem.{Problem}
use Rattle.meaning.specs.Face.{faces}
use Rattle.meaning.specs.Row.{Row}
use Rattle.meaning.specs.Rows.{rows, rows_over}
use Rattle.meaning.specs.Read.{Answer, refused, got}
use Rattle.meaning.specs.Accept.{accept}
use Rattle.meaning.specs.Entry.{start_call}
use Rattle.meaning.specs.Search.{Place, at, past, place_of, start}
use Rattle.meaning.specs.PlaceValue.{PlaceValue, masks_of, place_value, Names}
use Rattle.meaning.proofs.ChoiceLaws.{rows_are}
use Rattle.masks.specs.Sets.{masks_in}
use Rattle.choosing.specs.Rows.{MaskRow}
use Rattle.choosing.proofs.Problem.{row_masks, first_row_of}
use Rattle.rows.specs.Functions.{numbers_in, rows_in, tokens_in}
use Rattle.rows.specs.Rows.{rows_of}
use Rattle.rows.specs.declared.functions.Functions.{Functions}
use Rattle.refusal.specs.Number.{number}
use Rattle.refusal.specs.declared.Refusal.{Refusal}
use Rattle.prepare.specs.Prepared.{PreparesLent, Ready}
use Rattle.prepare.specs.declared.Prepared.{Prepared}
use Rattle.prepare.proofs.PreparedLaws.{prepared_lent_refused, prepared_lent_accepted, ready_none, ready_rows}
use Rattle.places.specs.Places.{value_of, AtPast, IsRowOf, Begins}
use Rattle.places.specs.declared.Place as code

no_rows : (p : Problem) → faces p ≡ none → rows p ≡ []
unfolding rows
no_rows p e = ap (rows_over p) e

-- Values by their parts
pub row_value_lem : (r : Row) → place_value (at r) ≡ record { masks = masks_of r; is_past = false }
unfolding place_value
row_value_lem r = refl

pub past_value_lem : place_value past ≡ record { masks = replicate max_functions 0; is_past = true }
unfolding place_value
past_value_lem = refl

pub same_value : (v : code.Place) (w : PlaceValue) → masks_in v.sets ≡ w.masks → v.past ≡ w.is_past → value_of v ≡ w
same_value v w e f = λ i. record { masks = e i; is_past = f i }

-- The functions of a prepared problem, where it has rows: their rows are the problem's
pub record FunctionsIn (p : Problem) (o : std.Option Functions) : Type 0 where
  pub none : o ≡ None → faces p ≡ none
  pub listed : (f : Functions) → o ≡ Some f → rows_in f ≡ map masks_of (rows p)

module _ (p : Problem) (o : std.Option Functions) (in_p : FunctionsIn p o) (v : code.Place) where
  row_of : (f : Functions) → o ≡ Some f → (row : MaskRow) → (row ∈ rows_in f) ↔ ((r : Row) × (r ∈ rows p) × (row ≡ masks_of r))
  unfolding rows_of
  row_of f e row = row_masks p (numbers_in f) (tokens_in f) f.firsts.nodes f.firsts.count (in_p.listed f e) row

  -- A row of the functions names a row of the problem
  pub row_named : (f : Functions) → o ≡ Some f → IsRowOf v f
      → (r : Row) × (r ∈ rows p) × (masks_in v.sets ≡ masks_of r) × Names p (value_of v) (at r)
  row_named f q h =
      let (r, m, e) = (row_of f q (masks_in v.sets)).0 h.member in (
        r,
        m,
        e,
        record {
          is_place = (rows_are p r).0 m;
          is_value = same_value v (place_value (at r)) (e ∙ ap (λ (w : PlaceValue). w.masks) (sym (row_value_lem r)))
              (h.here ∙ ap (λ (w : PlaceValue). w.is_past) (sym (row_value_lem r)));
        },
      )

  pub past_named : AtPast v → Names p (value_of v) past
  past_named h = record {
    is_place = tt;
    is_value = same_value v (place_value past) (h.masks ∙ ap (λ (w : PlaceValue). w.masks) (sym past_value_lem))
        (h.past ∙ ap (λ (w : PlaceValue). w.is_past) (sym past_value_lem));
  }

  -- ... and nothing else does
  pub named_row : (r : Row) → Names p (value_of v) (at r) → (f : Functions) × (o ≡ Some f) × IsRowOf v f
  named_row r n = go o refl
    where
      go : (q : std.Option Functions) → o ≡ q → (f : Functions) × (o ≡ Some f) × IsRowOf v f
      go None e = absurd (true≢false (sym n.is_place.has_rows ∙ ap is_some (in_p.none e)))
      go (Some f) e =
          let whole : value_of v ≡ record { masks = masks_of r; is_past = false } = n.is_value ∙ row_value_lem r in (
            f,
            e,
            record {
              here = ap (λ (w : PlaceValue). w.is_past) whole;
              member = (row_of f e (masks_in v.sets)).1
                  (r, (rows_are p r).1 n.is_place, ap (λ (w : PlaceValue). w.masks) whole);
            },
          )

  named_past : Names p (value_of v) past → AtPast v
  named_past n =
      let whole : value_of v ≡ record { masks = replicate max_functions 0; is_past = true } = n.is_value ∙ past_value_lem in
      record { masks = ap (λ (w : PlaceValue). w.masks) whole; past = ap (λ (w : PlaceValue). w.is_past) whole }

  pub nothing_named : ((f : Functions) → o ≡ Some f → IsRowOf v f → ⊥) → (AtPast v → ⊥) → (place : Place Row)
      → Names p (value_of v) place → ⊥
  nothing_named f g (at r) n = let (h, e, is) = named_row r n in f h e is
  nothing_named f g past n = g (named_past n)

  -- The first place is the start
  pub begins_start : Begins o v → value_of v ≡ place_value (start p)
  unfolding rows_of
  begins_start h = go o refl h
    where
      go : (q : std.Option Functions) → o ≡ q → Begins q v → value_of v ≡ place_value (start p)
      go (Some f) e h =
          same_value v (record { masks = masks_in h.0; is_past = false }) (ap masks_in h.2.sets) h.2.here
          ∙ first_row_of p (numbers_in f) (tokens_in f) f.firsts.nodes f.firsts.count (in_p.listed f e) (masks_in h.0) h.1
      go None e h = (past_named h).is_value ∙ ap (λ (l : List Row). place_value (place_of l)) (sym (no_rows p (in_p.none e)))

-- Those of a prepared problem are
pub ready_functions : (x : Answer Problem) (r : Prepared) (ready : Ready x r) → FunctionsIn ready.problem r.functions
ready_functions x r ready = record { none = ready_none x r ready; listed = ready_rows x r ready }

-- The answers of `start`
pub starts_refused : (s : List ℕ) (e : Refusal) → PreparesLent (accept s) (Err e) → start_call s ≡ refused (number e)
unfolding start_call
starts_refused s e h = rw (prepared_lent_refused (accept s) e h)

pub starts_begins : (s : List ℕ) (r : Prepared) → PreparesLent (accept s) (Ok r) → (v : code.Place) → Begins r.functions v
    → start_call s ≡ got (value_of v)
unfolding start_call
starts_begins s r h v b =
    let ready = prepared_lent_accepted (accept s) r h in
    rw ready.answer (ap got (sym (begins_start ready.problem r.functions (ready_functions (accept s) r ready) v b)))
