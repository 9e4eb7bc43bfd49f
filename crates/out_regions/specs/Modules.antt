-- OUT of a module: at each statement, and as its callers see it.
use Rattle.std.specs.Prelude.{true, List}
use Rattle.f77_ast.specs.Trees.{StmtTrees}
use Rattle.f77_ast.specs.declared.results.At.{At}
use Rattle.f77_ast.specs.declared.results.Results.{Results}
use Rattle.in_out_regions.specs.transformer_algebra.declared.transformer.Transformer.{Transformer}
use Rattle.in_out_regions.specs.call_translation.Scopes.{ScopeTree}
use Rattle.in_out_regions.specs.transformers.Lists.{transformer_at}
use Rattle.in_out_regions.specs.region_sets.declared.region.Region.{Region}
use Rattle.in_out_regions.specs.region_sets.Sets.{unite_all}
use Rattle.in_out_regions.specs.array_regions.Entry.{seen, locals}
use Rattle.out_regions.specs.Known.{KnownTree}
use Rattle.out_regions.specs.Statement.{body_out, at_list}

abbrev pub summary_of : ScopeTree → List Region → List Region
summary_of m out = unite_all (seen m.symbols (locals m.symbols) (unite_all out))

-- of a body with this OUT
abbrev pub outs_from : StmtTrees → KnownTree → List Region → Results (List Region)
outs_from body k out = record { at = at_list true body k out; summary = summary_of k.scope out }

-- `us` has what its callers may read behind it; nothing of a main program, behind which nothing is read
abbrev pub outs_of : StmtTrees → KnownTree → List Region → Results (List Region)
outs_of body k us = outs_from body k (body_out k true body us)

-- from the transformers of its statements, their READ and WRITE, and IN
abbrev pub outs_with : StmtTrees → ScopeTree → List (At Transformer) → List (At (List Region)) → List (At (List Region)) → List Region → Results (List Region)
outs_with body m own accesses ins us = outs_of body (record { scope = m; does = transformer_at own; accesses = accesses; ins = ins }) us
