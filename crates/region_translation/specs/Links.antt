-- Which variables of the callee the elements of a variable of the caller may be, and the equations between the subscripts of both.
use Rattle.std.specs.Prelude.{ℕ, suc, Bool, true, false, not, ◌&&◌, if◌then◌else◌, bytes_eq, nat_eq, List, [], ◌∷◌, ◌++◌, length, Option, Some, None, option_to_list}
use Rattle.affine_systems.specs.declared.row.Row.{Row}
use Rattle.affine_systems.specs.Given.{IsGiven}
use Rattle.affine_systems.specs.Rows.{AllRows}
use Rattle.affine_systems.specs.declared.row.Var.TheVariants.{Phi, Aux}
use Rattle.f77_ast.specs.declared.symbol.Place.{Place}
use Rattle.f77_ast.specs.declared.symbol.Place.TheVariants.{Local, Dummy, Block, Constant}
use Rattle.f77_ast.specs.declared.variable.Variable.{Variable}
use Rattle.f77_ast.specs.declared.variable.Variable.TheVariants.{Own, Block as Whole, Saved}
use Rattle.f77_ast.specs.Symbols.{BoundTree, SymbolTree, number_from}
use Rattle.f77_ast.specs.Shared.{symbol_at}
use Rattle.f77_ast.specs.Variables.{same_variable}
use Rattle.affine_forms.specs.declared.affine.Affine.{Affine}
use Rattle.affine_forms.specs.Comparisons.{var_form}
use Rattle.effects.specs.Callee.{first_like}
use Rattle.call_equations.specs.declared.link.Link.{Link}
use Rattle.call_equations.specs.Sides.{SidesTree}
use Rattle.call_equations.specs.Forms.{equation}
use Rattle.call_equations.specs.Links.{link_of}
use Rattle.region_translation.specs.declared.links.CalleeLink.{CalleeLink}
use Rattle.region_translation.specs.declared.units.Units.{Units}
use Rattle.region_translation.specs.Names.{turned_rows}
use Rattle.region_translation.specs.Units.{meet, units_of, unit_place, are_covered}

-- its rows may be given to calls
abbrev pub LinkFits : CalleeLink → Type 0
LinkFits l = AllRows IsGiven l.rows

abbrev pub AllLinksFit : List CalleeLink → Type 0
AllLinksFit [] = Unit {0}
AllLinksFit (l ∷ ls) = LinkFits l × AllLinksFit ls

abbrev pub link : Variable → Bool → List Row → CalleeLink
link v moved rs = record { variable = v; moved = moved; rows = rs }

-- the same elements with the same subscripts
abbrev pub same_link : Variable → CalleeLink
same_link v = link v false []

-- elements at which a row holds; any, where there is none
abbrev pub by_row : Variable → Option Row → CalleeLink
by_row v r = link v true (option_to_list r)

-- ---- dummies (ANSI X3.9-1978 §15.9.3): v is the caller's variable, which has q subscripts

-- the dummy with this number, where its actual names the variable
abbrev pub if_actual : Variable → ℕ → ℕ → Option Link → List CalleeLink
if_actual v q n None = []
if_actual v q n (Some l) = if same_variable v l.variable then link (Own n) true (turned_rows l.rank q l.rows) ∷ [] else []

abbrev pub dummy_link : SidesTree → Variable → ℕ → ℕ → Place → List CalleeLink
dummy_link c v q n (Local g o) = []
dummy_link c v q n (Dummy d) = if_actual v q n (link_of c (Own n))
dummy_link c v q n (Block b o) = []
dummy_link c v q n (Constant k) = []

-- of the symbols after the n-th
abbrev pub dummy_links : SidesTree → Variable → ℕ → ℕ → List SymbolTree → List CalleeLink
dummy_links c v q n [] = []
dummy_links c v q n (s ∷ ss) = dummy_link c v q (suc n) s.place ++ dummy_links c v q (suc n) ss

-- ---- blocks (ANSI X3.9-1978 §8.3): u has the units of the caller's variable, and f is the unit of its element

abbrev pub is_number : ℕ → Option ℕ → Bool
is_number m None = false
is_number m (Some n) = nat_eq m n

-- the caller's variable is the one that this variable of the callee is to the caller
abbrev pub is_like : SidesTree → Variable → List ℕ → ℕ → SymbolTree → Bool
is_like c (Own m) b o s = is_number m (first_like 1 c.caller.symbols b o c.callee.symbols s c.caller.symbols)
is_like c (Whole x) b o s = false
is_like c (Saved x y) b o s = false

abbrev pub common_link : SidesTree → Variable → Option Affine → ℕ → List ℕ → ℕ → SymbolTree → CalleeLink
common_link c v f n b o s = if is_like c v b o s then same_link (Own n) else by_row (Own n) (equation f (unit_place c.callee.scalars.value false o s.bounds))

abbrev pub in_block : SidesTree → Variable → List ℕ → Units → Option Affine → ℕ → SymbolTree → Place → List CalleeLink
in_block c v b u f n s (Local g o) = []
in_block c v b u f n s (Dummy d) = []
in_block c v b u f n s (Block x o) = if bytes_eq x b && meet (units_of c.callee.symbols o s) u then common_link c v f n b o s ∷ [] else []
in_block c v b u f n s (Constant k) = []

-- of the symbols after the n-th
abbrev pub common_links : SidesTree → Variable → List ℕ → Units → Option Affine → ℕ → List SymbolTree → List CalleeLink
common_links c v b u f n [] = []
common_links c v b u f n (s ∷ ss) = in_block c v b u f (suc n) s s.place ++ common_links c v b u f (suc n) ss

-- the units of the callee's variables of a block
abbrev pub place_units : List SymbolTree → List ℕ → SymbolTree → Place → List Units
place_units ss b s (Local g o) = []
place_units ss b s (Dummy d) = []
place_units ss b s (Block x o) = if bytes_eq x b then units_of ss o s ∷ [] else []
place_units ss b s (Constant k) = []

abbrev pub all_units : List SymbolTree → List ℕ → List SymbolTree → List Units
all_units ss b [] = []
all_units ss b (t ∷ ts) = place_units ss b t t.place ++ all_units ss b ts

-- units that no variable of the callee has are such of the block
abbrev pub block_rest : SidesTree → List ℕ → Units → CalleeLink → List CalleeLink
block_rest c b u l = if are_covered u (all_units c.callee.symbols b c.callee.symbols) then [] else l ∷ []

abbrev pub block_links : SidesTree → Variable → List ℕ → Units → Option Affine → CalleeLink → List CalleeLink
block_links c v b u f whole = common_links c v b u f 0 c.callee.symbols ++ block_rest c b u whole

-- ---- all variables

abbrev pub rank_of : Option SymbolTree → ℕ
rank_of None = 0
rank_of (Some s) = length s.bounds

-- how many subscripts a variable of the caller has
abbrev pub subscripts_of : SidesTree → Variable → ℕ
subscripts_of c (Own m) = rank_of (symbol_at c.caller.symbols m)
subscripts_of c (Whole b) = 1
subscripts_of c (Saved x y) = 1

abbrev pub own_common : SidesTree → Variable → SymbolTree → Place → List CalleeLink
own_common c v s (Local g o) = []
own_common c v s (Dummy d) = []
own_common c v s (Block b o) =
    let f = unit_place c.caller.scalars.value true o s.bounds in
    block_links c v b (units_of c.caller.symbols o s) f (by_row (Whole b) (equation (Some (var_form (Phi 1))) f))
own_common c v s (Constant k) = []

abbrev pub own_links : SidesTree → ℕ → Option SymbolTree → List CalleeLink
own_links c m None = []
own_links c m (Some s) = dummy_links c (Own m) (length s.bounds) 0 c.callee.symbols ++ own_common c (Own m) s s.place

-- a saved local of the callee is a symbol of it
abbrev pub saved_as : List ℕ → List ℕ → Option ℕ → Variable
saved_as x y None = Saved x y
saved_as x y (Some n) = Own n

abbrev pub saved_variable : SidesTree → List ℕ → List ℕ → Variable
saved_variable c x y = if bytes_eq x c.name then saved_as x y (number_from 1 c.callee.names y) else Saved x y

-- `size` has the units of a block in the program
abbrev pub callee_links : (List ℕ → ℕ) → SidesTree → Variable → List CalleeLink
callee_links size c (Own m) = own_links c m (symbol_at c.caller.symbols m)
callee_links size c (Whole b) = block_links c (Whole b) b (record { first = 0; count = size b }) (Some (var_form (Aux 1))) (same_link (Whole b))
callee_links size c (Saved x y) = same_link (saved_variable c x y) ∷ []
