-- What the names of a module are, judged from the parts of its table.
use Rattle.std.proofs.Common.{◌≡◌, List, Option, ap, ◌∙◌}
use Rattle.f77_ast.specs.DeclTrees.{ModuleTree}
use Rattle.f77_names.specs.declared.functions.Function.{Function}
use Rattle.f77_names.specs.declared.kinds.Kind.{Kind}
use Rattle.fx_lists.specs.declared.refusal.Refusal.{Refusal}
use Rattle.f77_names.specs.Declaring.{Told}
use Rattle.f77_names.specs.Functions.{arrays_named}
use Rattle.f77_names.specs.Kinds.{kinds_of}
use Rattle.f77_names.specs.Lines.{LineTable}
use Rattle.f77_names.specs.Tables.{check_entries, check_names, told_of}

pub judged-as : (f : Option Refusal) (ks : List Kind) (fs : List Function) (t : Told) (at : LineTable) (m : ModuleTree) → f ≡ check_entries ks t.entries t.found → ks ≡ kinds_of m.decls → fs ≡ arrays_named m.decls → t ≡ told_of fs at m → f ≡ check_names at m
judged-as f ks fs t at m a b d e =
    a ∙ ap (λ k. check_entries k t.entries t.found) b ∙ ap (λ (u : Told). check_entries (kinds_of m.decls) u.entries u.found) (e ∙ ap (λ g. told_of g at m) d)
