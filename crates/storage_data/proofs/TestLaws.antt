-- Tests one after another.
use Rattle.f77_ast.proofs.PlainlyDecl.{decl_lists}
use Rattle.fx_lists.proofs.Booleans.{or_turned as or_assoc, with_false}

pub ruleset twice_steps = (with_false, or_assoc, decl_lists)
