-- Where a term stands.
--   scope_of    the code's array of names as a scope: the innermost name first
--   With       a scope with one more name
--   Entered    the scope below a node
--   Good       as many levels may be opened as there is room for names
--   Below      the site of a node's inner terms
use Rattle.std.specs.Prelude.{◌≡◌, ℕ, zero, suc, ◌+◌, ◌-◌, ◌≤◌, List, [], ◌∷◌, length, get_or}
use Rattle.meaning.specs.Limits.{max_depth}
use Rattle.meaning.specs.Term.{Named}
use Rattle.meaning.specs.Scope.{enter}
use Rattle.meaning.specs.Read as read
use Rattle.meaning.specs.Read.{context_below}
use Rattle.fields.specs.Heads.{context_from}
use Rattle.sites.specs.declared.site.Scope.{Scope}
use Rattle.sites.specs.declared.site.Site.{Site}

-- The first n names, the last of them first
unfoldable pub names_in : List ℕ → ℕ → List ℕ
names_in names zero = []
names_in names (suc n) = get_or names n 0 ∷ names_in names n

abbrev pub scope_of : Scope → List ℕ
scope_of x = names_in x.names x.depth

abbrev pub site_scope : Site → List ℕ
site_scope x = scope_of x.scope

abbrev pub site_context : Site → read.Context
site_context x = context_from x.context

pub record With (before : Scope) (name : ℕ) (after : Scope) : Type 0 where
  pub room : length after.names ≡ 32
  pub depth : after.depth ≡ before.depth + 1
  pub names : scope_of after ≡ name ∷ scope_of before

pub record Entered (before : Scope) (l : Named) (after : Scope) : Type 0 where
  pub room : length after.names ≡ 32
  pub depth : after.depth ≤ before.depth + 1
  pub names : scope_of after ≡ enter l (scope_of before)

pub record Good (x : Site) : Type 0 where
  pub levels : x.scope.depth + x.levels ≤ 32
  pub room : length x.scope.names ≡ 32

pub record Top (ctx : read.Context) (x : Site) : Type 0 where
  pub good : Good x
  pub levels : x.levels ≡ max_depth
  pub context : site_context x ≡ ctx
  pub names : site_scope x ≡ []

pub record Below (before : Site) (l : Named) (after : Site) : Type 0 where
  pub good : Good after
  pub levels : after.levels ≡ before.levels - 1
  pub context : site_context after ≡ context_below l (site_context before)
  pub names : site_scope after ≡ enter l (site_scope before)
