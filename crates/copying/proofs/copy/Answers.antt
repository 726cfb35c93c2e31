-- `copying::copy` meets its contract: it is `copy_term` at the copied term itself.
use Rattle.copying.proofs.CopyLaws.{whole_copied, whole_copies}
use Rattle.copying.proofs.copy.Goals as goal

pub copy_term-requires : goal.copy_term-requires
copy_term-requires c = whole_copies c.requires

pub returns : goal.returns
returns c = whole_copied _ _ _ _ _ _ c.copy_term.ensures
