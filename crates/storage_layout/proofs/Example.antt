-- The symbols and the refusals of small modules, computed.
use Rattle.std.proofs.Common.{◌≡◌, List, [], ◌∷◌, None, Some, Ok, Err, true, false, refl, pos, ℕ}
use Rattle.std.specs.Prelude.{codes}
use Rattle.f77_ast.specs.declared.decl.Scalar.TheVariants.{Int}
use Rattle.f77_ast.specs.declared.places.Part.TheVariants.{Decl, Stmt}
use Rattle.f77_ast.specs.declared.places.Spot.{Spot}
use Rattle.f77_ast.specs.Trees.{ExprTree, name, int, log, element, no_exprs, more_exprs, stmt, assign, no_stmts, more_stmts}
use Rattle.f77_ast.specs.DeclTrees.{EntityTree, DeclTree, integer, common, equivalence, initial, ParsedTree}
use Rattle.f77_ast.specs.declared.symbol.Place.{Place}
use Rattle.f77_ast.specs.declared.symbol.Place.TheVariants.{Local, Block}
use Rattle.f77_ast.specs.Symbols.{BoundTree, SymbolTree}
use Rattle.fx_lists.specs.declared.code.Code.TheVariants.{EquivalenceExtendsBack, InitialMismatch, TypeMismatch}
use Rattle.fx_lists.specs.Refusals.{refuse_if, is_before}
use Rattle.f77_names.specs.Entries.{find, place_in}
use Rattle.f77_names.specs.Functions.{function_of}
use Rattle.f77_names.specs.Tables.{entry_kind, kind_in}
use Rattle.storage_layout.specs.Symbols.{laid, shared, filled, symbols_or_refusal, after_shared, lay_shared_and_data, lay_out, valued, checked, check_and_lay_out, symbols_at, symbols_of}
use Rattle.f77_ast.proofs.Example.{i}
use Rattle.f77_ast.proofs.ExampleLoops.{j_at}
use Rattle.f77_names.proofs.Example.{scalar_named}

-- J(5)
abbrev five : EntityTree
five = record { name = codes "J"; bounds = record { low = None; high = Some (int (pos 5)) } ∷ [] }

-- specifications on the lines 2, 3, .. and an assignment on line 9
abbrev spots : List Spot
spots =
    record { part = Decl 0; first = 2; comments = [] }
    ∷ record { part = Decl 1; first = 3; comments = [] }
    ∷ record { part = Decl 2; first = 4; comments = [] }
    ∷ record { part = Decl 3; first = 5; comments = [] }
    ∷ record { part = Stmt 1; first = 9; comments = [] }
    ∷ []

abbrev parsed : List DeclTree → ExprTree → ParsedTree
parsed ds right = record {
  module_read = record {
    name = codes "P";
    main = true;
    titled = false;
    dummies = [];
    decls = ds;
    body = more_stmts (stmt 1 None (assign i right)) no_stmts;
    function = None;
    references = [];
    whiles = [];
  };
  places = record { spots = spots; closing = [] };
}

abbrev in_block : DeclTree
in_block = common (record { block = codes "B"; members = scalar_named (codes "I") ∷ [] } ∷ [])

abbrev together : ExprTree → DeclTree
together e = equivalence ((i ∷ j_at e ∷ []) ∷ [])

abbrev scalar_at : List ℕ → Place → SymbolTree
scalar_at x p = record { name = x; scalar = Int; bounds = []; place = p; saved = false; initial = [] }

abbrev one_to_five : List BoundTree
one_to_five = record { low = int (pos 1); high = Some (int (pos 5)) } ∷ []

-- COMMON /B/ I; INTEGER J(5); EQUIVALENCE (I,J(1)): J lies in the block from its first unit on
shares_with_block :
    symbols_of (parsed (in_block ∷ integer (five ∷ []) ∷ together (int (pos 1)) ∷ []) (int (pos 1)))
    ≡ Ok (scalar_at (codes "I") (Block (codes "B") 0)
    ∷ record { name = codes "J"; scalar = Int; bounds = one_to_five; place = Block (codes "B") 0; saved = false; initial = [] }
    ∷ [])
unfolding find place_in function_of kind_in entry_kind refuse_if is_before laid shared filled symbols_or_refusal after_shared lay_shared_and_data lay_out valued checked check_and_lay_out symbols_at symbols_of
shares_with_block = refl

-- with J(2) the block would begin before I
extends_back :
    symbols_of (parsed (in_block ∷ integer (five ∷ []) ∷ together (int (pos 2)) ∷ []) (int (pos 1)))
    ≡ Err (record { line = 4; code = EquivalenceExtendsBack })
unfolding find place_in function_of kind_in entry_kind refuse_if is_before laid shared filled symbols_or_refusal after_shared lay_shared_and_data lay_out valued checked check_and_lay_out symbols_at symbols_of
extends_back = refl

-- a wrong type on a later line comes first
type_comes_first :
    symbols_of (parsed (in_block ∷ integer (five ∷ []) ∷ together (int (pos 2)) ∷ []) (log true))
    ≡ Err (record { line = 9; code = TypeMismatch })
unfolding find place_in function_of kind_in entry_kind refuse_if is_before laid shared filled symbols_or_refusal after_shared lay_shared_and_data lay_out valued checked check_and_lay_out symbols_at symbols_of
type_comes_first = refl

-- INTEGER J(5); EQUIVALENCE (I,J(2)); DATA J/2*0,3*7/: both are saved, and J has two runs
abbrev values : DeclTree
values =
    initial (record {
      targets = name (codes "J") ∷ [];
      values = record { repeat = Some 2; value = int (pos 0) } ∷ record { repeat = Some 3; value = int (pos 7) } ∷ [];
    } ∷ [])

initial_values :
    symbols_of (parsed (integer (five ∷ []) ∷ together (int (pos 2)) ∷ values ∷ []) (int (pos 1)))
    ≡ Ok (record {
      name = codes "J";
      scalar = Int;
      bounds = one_to_five;
      place = Local 1 0;
      saved = true;
      initial = record { offset = 0; count = 2; value = pos 0 } ∷ record { offset = 2; count = 3; value = pos 7 } ∷ [];
    }
    ∷ record { name = codes "I"; scalar = Int; bounds = []; place = Local 1 1; saved = true; initial = [] }
    ∷ [])
unfolding find place_in function_of kind_in entry_kind refuse_if is_before laid shared filled symbols_or_refusal after_shared lay_shared_and_data lay_out valued checked check_and_lay_out symbols_at symbols_of
initial_values = refl

-- DATA on the block by EQUIVALENCE
no_data_in_block :
    symbols_of (parsed (in_block ∷ integer (five ∷ []) ∷ together (int (pos 1)) ∷ values ∷ []) (int (pos 1)))
    ≡ Err (record { line = 5; code = InitialMismatch })
unfolding find place_in function_of kind_in entry_kind refuse_if is_before laid shared filled symbols_or_refusal after_shared lay_shared_and_data lay_out valued checked check_and_lay_out symbols_at symbols_of
no_data_in_block = refl
