-- The names of modules.
use Rattle.std.specs.Prelude.{ℕ, List, map}
use Rattle.f77_ast.specs.DeclTrees.{ParsedTree}

-- the names of modules in the order of the text
abbrev pub names_of : List ParsedTree → List (List ℕ)
names_of ps = map (λ p. p.module_read.name) ps
