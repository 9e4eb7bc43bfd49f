-- DATA: in the table of a module that is not refused each list gives its values to the units of its items in order.
use Rattle.std.proofs.Common.{◌≡◌, ℕ, true, false, ℤ, List, [], ◌∷◌, map, Option, Some, None, inl, inr, refl, sym, ap, ◌∙◌, subst}
use Rattle.f77_ast.specs.Trees.{ExprTree}
use Rattle.f77_ast.specs.DeclTrees.{ParsedTree}
use Rattle.f77_ast.specs.declared.constant.Constant.{Constant}
use Rattle.f77_ast.specs.declared.constant.ConstantValue.{ConstantValue}
use Rattle.f77_ast.specs.declared.constant.ConstantValue.TheVariants.{Is, Faults, Varies}
use Rattle.f77_ast.specs.Constants.{number_of, const_value}
use Rattle.f77_ast.specs.Symbols.{SymbolTree}
use Rattle.f77_names.specs.Entries.{EntryTree, find, of_entry}
use Rattle.storage_data.specs.declared.deals.Piece.{Piece}
use Rattle.storage_data.specs.Units.{place_of}
use Rattle.storage_data.specs.Initials.{constant_of, literal_of}
use Rattle.storage_data.specs.Runs.{initial_of}
use Rattle.f77_meaning.specs.Modules.{value_from}
use Rattle.storage_layout.specs.Table.{symbol_of}
use Rattle.laws_programs.specs.SymbolTables.Shapes.{symbol_named}
use Rattle.laws_programs.proofs.SymbolTables.Answers.{Answered, names_in, layout_in}
use Rattle.laws_programs.specs.Storage.DataLaws.{ConstantsFit}
use Rattle.laws_programs.specs.Layout.Layout.{Target, value_at, begins_with, FillInOrder}
use Rattle.laws_programs.proofs.Layouts.CommonLaws.{placed_symbol}
use Rattle.laws_programs.proofs.Layouts.RunValues.{PiecesGive, initial_gives, initial_back, given_value}
use Rattle.laws_programs.proofs.Layouts.DealLaws.{Slot, SomeFits, AllFit}
use Rattle.laws_programs.proofs.Layouts.DataNames.{InData}
use Rattle.laws_programs.proofs.Layouts.OnceLaws.{Once}
use Rattle.laws_programs.proofs.Layouts.StretchLaws.{Typed}

-- ---- pieces

give_pieces : (ps : List Piece) (s : Slot) (c : Constant) → SomeFits ps s (Some c) → PiecesGive s.unit (number_of c) s.place ps
give_pieces [] s c h = absurd h
give_pieces (p ∷ ps) s c (inl h) = inl (c, h.0, h.1, h.2, h.3, refl)
give_pieces (p ∷ ps) s c (inr h) = inr (give_pieces ps s c h)

-- a value that pieces give
record GivenBy (ps : List Piece) (s : Slot) (w : ℤ) : Type 0 where
  constant : Constant
  fits : SomeFits ps s (Some constant)
  is : number_of constant ≡ w

given_by : (ps : List Piece) (n k : ℕ) (w : ℤ) → PiecesGive k w n ps → GivenBy ps (record { place = n; unit = k }) w
given_by [] n k w h = absurd h
given_by (p ∷ ps) n k w (inl h) = record { constant = h.0; fits = inl (h.1, h.2, h.3, h.4); is = h.5 }
given_by (p ∷ ps) n k w (inr h) = let r = given_by ps n k w h in record { constant = r.constant; fits = inr r.fits; is = r.is }

-- a unit that is given a constant begins with it
begins : (ps : List Piece) (n k : ℕ) (c : Constant) → Once ps → SomeFits ps (record { place = n; unit = k }) (Some c) → value_from 0 (initial_of true n ps) k ≡ Some (number_of c)
begins ps n k c once h = given_value (initial_of true n ps) k (number_of c) (initial_gives k (number_of c) n ps (give_pieces ps (record { place = n; unit = k }) c h)) (λ w g. only w (given_by ps n k w (initial_back k w true n ps g)))
  where
    only : (w : ℤ) → GivenBy ps (record { place = n; unit = k }) w → w ≡ number_of c
    only w r =
        let same : Some r.constant ≡ Some c = once (record { place = n; unit = k }) (Some r.constant) (Some c) r.fits h in
        let one : r.constant ≡ c = cc in
        sym r.is ∙ ap number_of one

is_const_value : (w : ConstantValue) (c : Constant) → constant_of w ≡ Some c → w ≡ Is c
is_const_value (Is d) c h = let same : d ≡ c = cc in ap Is same
is_const_value Faults c h = cc
is_const_value Varies c h = cc

data_entry : (x : List ℕ) (es : List EntryTree) → InData x es → (e : EntryTree) × (find x es ≡ Some e) × (e.initial ≡ true)
data_entry x es h = go (find x es) refl h
  where
    go : (o : Option EntryTree) → find x es ≡ o → of_entry false (λ e. e.initial) o ≡ true → (e : EntryTree) × (find x es ≡ Some e) × (e.initial ≡ true)
    go None q k = cc
    go (Some e) q k = (e, q, k)

module _ (p : ParsedTree) (ss : List SymbolTree) (a : Answered p ss) (fit : ConstantsFit ss) where
  -- the units of a list, by places and by names
  abbrev pub Match : List Slot → List Target → Type 0
  Match [] [] = Unit {0}
  Match [] (t ∷ ts) = ⊥
  Match (s ∷ rs) [] = ⊥
  Match (s ∷ rs) (t ∷ ts) = (place_of (names_in p) t.name ≡ Some s.place) × (s.unit ≡ t.unit) × InData t.name (names_in p).entries × Match rs ts

  -- units with values begin with them
  pub fill : (ps : List Piece) → ps ≡ (layout_in p).pieces → Once ps → Typed ps → (rs : List Slot) (ts : List Target) (es : List ExprTree) → Match rs ts → AllFit ps rs (map literal_of es) → FillInOrder ss ts es
  fill ps q once typed [] [] [] m h = tt
  fill ps q once typed [] [] (e ∷ es) m h = absurd h
  fill ps q once typed [] (t ∷ ts) es m h = absurd m
  fill ps q once typed (s ∷ rs) [] es m h = absurd m
  fill ps q once typed (s ∷ rs) (t ∷ ts) [] m h = absurd h
  fill ps q once typed (s ∷ rs) (t ∷ ts) (e ∷ es) m h =
      let l = layout_in p in
      let c = typed s (literal_of e) h.0 in
      let x = data_entry t.name (names_in p).entries m.2 in
      let named : symbol_named ss t.name ≡ Some (symbol_of l s.place x.0) = ap (λ z. symbol_named z t.name) a.table ∙ placed_symbol l t.name x.0 s.place x.1 m.0 in
      let here : SomeFits ps s (Some c.0) = subst (SomeFits ps s) c.1 h.0 in
      let value : value_from 0 (initial_of true s.place ps) s.unit ≡ Some (number_of c.0) = begins ps s.place s.unit c.0 once here in
      let by_table : begins_with ss t ≡ Some (number_of c.0) =
      ap (λ o. value_at o t.unit) named
      ∙ ap (λ b. value_from 0 (initial_of b s.place l.pieces) t.unit) x.2
      ∙ ap (λ z. value_from 0 (initial_of true s.place z) t.unit) (sym q)
      ∙ ap (value_from 0 (initial_of true s.place ps)) (sym m.1)
      ∙ value in
      ((c.0, is_const_value (const_value (λ y. None) e) c.0 c.1, by_table), fill ps q once typed rs ts es m.3 h.1)
