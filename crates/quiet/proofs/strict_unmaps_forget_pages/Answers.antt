use Rattle.quiet.proofs.Strictly.{strict_pages, strict_single_pages}
use Rattle.quiet.proofs.strict_unmaps_forget_pages.Goals as goal

pub returns-clause-leaves : goal.returns-clause-leaves
returns-clause-leaves c = strict_pages

pub returns-clause-single : goal.returns-clause-single
returns-clause-single c = strict_single_pages
