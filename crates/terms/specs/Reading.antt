-- What reading a term promises: the answer, and the front of the buffer that is lent.
--   Space     room for the tokens: a node takes three bytes or more
--   Room      what `read_term` asks: a site, and space
--   Inner     what `read_fields` asks: the same, and bytes of a content, so that a token has room for the size
--   Written   the buffer's front has the tokens of what is read, and no entry after them is changed
--   ..answer  what document 01 reads, as counts of it
--   ..Done    the code's answer, and the buffer's front
use Rattle.std.specs.Prelude.{◌≡◌, ℕ, ◌-◌, ◌*◌, ◌≤◌, ◌<◌, List, ◌++◌, length, drop, eqb, Result, Ok, Err, IfOk, Option, Some, None}
use Rattle.meaning.specs.Basics.{choose, Bytes}
use Rattle.meaning.specs.Term.{Forest, Named, NamedTerm, one, trees}
use Rattle.meaning.specs.Read.{Answer, refused, got, after}
use Rattle.tokens.specs.Token.{tokens}
use Rattle.refusal.specs.declared.Refusal.{Refusal}
use Rattle.refusal.specs.declared.Refusal.TheVariants.{InnerFields}
use Rattle.fields.specs.Heads.{answer_from}
use Rattle.sites.specs.Site.{Good}
use Rattle.sites.specs.declared.site.Site.{Site}
use Rattle.fields.specs.declared.node.Due.{Due}
use Rattle.fields.specs.declared.node.Due.TheVariants as dues
use Rattle.terms.specs.declared.term.Took.{Took}
use Rattle.terms.specs.declared.term.Fields.{Fields}

pub record Space (bytes room : ℕ) : Type 0 where
  pub table : bytes ≤ 3 * room

pub record Room (x : Site) (bytes room : ℕ) : Type 0 where
  pub good : Good x
  pub space : Space bytes room

pub record Inner (x : Site) (bytes room : ℕ) : Type 0 where
  pub outer : Room x bytes room
  pub short : bytes < 65536

unfoldable pub Written : {A : Type 0} → (A → List ℕ) → Answer A → List ℕ → List ℕ → Type 0
Written row (refused r) before after = Unit {0}
Written row (got a) before after = after ≡ row a ++ drop (length (row a)) before

abbrev pub term_tokens : List ℕ → NamedTerm × Bytes → List ℕ
term_tokens sc x = tokens sc (one x.0)

abbrev pub term_answer : List ℕ → Bytes → Answer (NamedTerm × Bytes) → Answer Took
term_answer sc s a = after a (λ x. got (record { bytes = length s - length x.1; nodes = length (term_tokens sc x) }))

pub record TermDone (sc : List ℕ) (s : Bytes) (a : Answer (NamedTerm × Bytes)) (before after : List ℕ) (r : Result Took Refusal) : Type 0 where
  pub answer : answer_from r ≡ term_answer sc s a
  pub table : Written (term_tokens sc) a before after

abbrev pub fields_answer : List ℕ → Answer (Forest Named) → Answer Fields
fields_answer sc a = after a (λ f. got (record { nodes = length (tokens sc f); count = trees f }))

-- Numbers that a token can hold
pub record TokenFits (f : Fields) : Type 0 where
  pub nodes : f.nodes < 65535
  pub count : f.count < 65535

pub record FieldsDone (sc : List ℕ) (a : Answer (Forest Named)) (before after : List ℕ) (r : Result Fields Refusal) : Type 0 where
  pub answer : answer_from r ≡ fields_answer sc a
  pub table : Written (tokens sc) a before after
  pub fits : IfOk r TokenFits

-- What is due after the next field where so many fields are due and so many bytes are left
abbrev pub next_of : Due → ℕ → Result (Option Due) Refusal
next_of dues.All left = choose (eqb left 0) (Ok None) (Ok (Some dues.All))
next_of (dues.Exactly n) left = choose (eqb n 0) (choose (eqb left 0) (Ok None) (Err InnerFields)) (Ok (Some (dues.Exactly (n - 1))))
