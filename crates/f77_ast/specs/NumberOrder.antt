-- Results in the order of the numbers of statements.
use Rattle.std.specs.Prelude.{not, List, ◌++◌}
use Rattle.std.specs.List.{filter}
use Rattle.f77_ast.specs.declared.results.At.{At}
use Rattle.f77_ast.specs.Hidden.{is_hidden}

-- those of the statements of the text in its order, and behind them those of hidden statements
abbrev pub in_number_order : {T : Type 0} → List (At T) → List (At T)
in_number_order as' = filter (λ a. not (is_hidden a.id)) as' ++ filter (λ a. is_hidden a.id) as'
