-- The same at other lines: lines are counted on by so many.
use Rattle.std.specs.Prelude.{ℕ, ◌+◌, map}
use Rattle.fixed_form.specs.declared.line.Line.{Line}
use Rattle.f77_ast.specs.declared.places.Spot.{Spot}
use Rattle.f77_ast.specs.DeclTrees.{ParsedTree}

-- a statement of a text
abbrev pub moved_line : ℕ → Line → Line
moved_line by s = record s { first = s.first + by; last = s.last + by }

-- the place of a statement
abbrev pub moved_spot : ℕ → Spot → Spot
moved_spot by s = record s { first = s.first + by }

-- a module that was read: the lines of its statements alone are others
abbrev pub moved : ℕ → ParsedTree → ParsedTree
moved by p = record p { places = record p.places { spots = map (moved_spot by) p.places.spots } }
