-- Units of expressions that are actuals, and of locals that are not saved, are no units of the variables of modules that do not have them.
use Rattle.std.proofs.Common.{◌≡◌, ◌⊎◌, inl, inr, ⊎_elim, ℕ, ◌+◌, ◌-◌, ◌<◌, ◌≤◌, Bool, true, false, List, [], ◌∷◌, map, Option, Some, None, refl, sym, ap, ap₂, ◌∙◌, subst, arith, nat_eq, true≢false}
use Rattle.std.specs.Prelude.{not, if◌then◌else◌, nat_le, nat_lt, bytes_eq}
use Rattle.std.specs.List.{list_any}
use Rattle.std.proofs.lemmas.Bool.{and_from, and_parts, eqb-true}
use Rattle.std.proofs.lemmas.Bool.Decides.{nat_tests}
use Rattle.std.proofs.lemmas.Slice.Eq.{bytes_eq-Decides}
use Rattle.f77_ast.specs.DeclTrees.{ParsedTree}
use Rattle.f77_ast.specs.Places.{Variable, Function}
use Rattle.f77_ast.specs.Calls.{in_place}
use Rattle.f77_ast.specs.Programs.{Routine}
use Rattle.f77_ast.specs.declared.symbol.Place.{Place}
use Rattle.f77_ast.specs.declared.symbol.Place.TheVariants as place
use Rattle.f77_ast.specs.Symbols.{SymbolTree}
use Rattle.f77_ast.specs.declared.variable.Variable.TheVariants.{Own}
use Rattle.f77_ast.specs.Units.{units_in}
use Rattle.f77_ast.specs.Shared.{symbol_at, share, share_maybe}
use Rattle.call_graph.specs.declared.graph.Graph.{Graph}
use Rattle.f77_meaning.specs.Areas.{Area, group, Numbering, unit_at, is_own_unit}
use Rattle.f77_meaning.specs.Modules.{Known, known_of, is_function, meant_by, meant_at, meant_in, names, fixed_place, fixed_maybe, fixed, dummies_from, units_from, lost_units, all_lost}
use Rattle.f77_meaning.specs.Linked.{numbering, routine}
use Rattle.f77_meaning.specs.Laws.{is_own, area_of, IsKnown}
use Rattle.f77_meaning.proofs.ModuleLaws.{offsets_fit, variables_occupy_their_storage, shared_by_table}
use Rattle.f77_meaning.proofs.UnitLaws.{temporaries_are_recognisable}
use Rattle.laws_programs.specs.Programs.{IsProgram}
use Rattle.laws_programs.specs.Storage.Programs.{IsModule, known}
use Rattle.laws_programs.proofs.Storage.LocalLaws.{group_at}
use Rattle.laws_programs.proofs.Storage.ModuleLaws.{declared, area_known}
use Rattle.laws_interleavings.specs.Typed.{IsNoDummy}
use Rattle.call_graph.specs.CallsIn.{Each}
use Rattle.laws_analyses.proofs.Modules.{IsIn}
use Rattle.laws_analyses.proofs.NameLaws.{name_number}
use Rattle.laws_analyses.proofs.UnitLaws.{ModuleAt, module_at}
use Rattle.laws_marks.specs.ConflictClaims.{IsSole}
use Rattle.laws_marks.proofs.Apart.{linked, off_one, off_from, lost_of, lost_in, lost_some, lost_off, same_group}
use Rattle.laws_marks.proofs.Order.{Named, Distinct}
use Rattle.laws_marks.specs.Units.{IsPassing}
use Rattle.laws_marks.specs.Loops.{IsOutside, AreOutside}
use Rattle.laws_marks.proofs.Spared.{AllOutside}
use Rattle.f77_ast.proofs.StorageLaws.{from_number as numbered_place}
use Rattle.call_graph.specs.Visible.{is_local}
use Rattle.laws_programs.proofs.Effects.Passing.{among_units, of_symbols}

-- ---- units by the modules at hand

-- of a local, not saved, of one of them
abbrev pub IsLocalOf : List Routine → ℕ → Type 0
IsLocalOf [] u = ⊥
IsLocalOf (r ∷ rs) u = (list_any (λ v. nat_eq v u) r.locals ≡ true) ⊎ IsLocalOf rs u

-- of those behind the first
abbrev IsBehind : List Routine → ℕ → Type 0
IsBehind [] u = ⊥
IsBehind (r ∷ rs) u = IsLocalOf rs u

-- of a local of the first that has no name
abbrev IsNameless : List Routine → ℕ → Type 0
IsNameless [] u = ⊥
IsNameless (r ∷ rs) u = (list_any (λ v. nat_eq v u) r.locals ≡ true) × IsOutside u r

-- a unit of an expression, or of a local of a module that the first may call, or of one without a name
abbrev pub units : Numbering → List Routine → ℕ → Type 0
units n rs u = ((is_own_unit n u ≡ true) ⊎ (IsBehind rs u ⊎ IsNameless rs u)) × (nat_eq 0 u ≡ false)

local_more : (rs : List Routine) (u : ℕ) → IsBehind rs u → IsLocalOf rs u
local_more [] u h = h
local_more (r ∷ rs) u h = inr h

nameless_more : (rs : List Routine) (u : ℕ) → IsNameless rs u → IsLocalOf rs u
nameless_more [] u h = h
nameless_more (r ∷ rs) u h = inl h.0

pub more_units : (n : Numbering) (r : Routine) (rs : List Routine) (u : ℕ) → units n rs u → units n (r ∷ rs) u
more_units n r rs u h = (⊎_elim inl (λ b. inr (inl (⊎_elim (local_more rs u) (nameless_more rs u) b))) h.0, h.1)

-- ---- of a program that is read

stored_area : (m : List ℕ) (q : Place) (a : Area) → area_of m q ≡ Some a → is_own a ≡ false
stored_area m (place.Local h o) a e = cc
stored_area m (place.Block b o) a e = cc
stored_area m (place.Dummy k) a e = cc
stored_area m (place.Constant v) a e = cc

-- ---- locals that are not saved

abbrev group_of : Place → ℕ
group_of (place.Local h o) = h
group_of (place.Block b o) = 0
group_of (place.Dummy k) = 0
group_of (place.Constant v) = 0

local_area : (w : List ℕ) (q : Place) → is_local q ≡ true → area_of w q ≡ Some (group w (group_of q))
local_area w (place.Local h o) e = refl
local_area w (place.Block b o) e = cc
local_area w (place.Dummy k) e = cc
local_area w (place.Constant v) e = cc

-- a unit in the place of such a local is one of those of its module
lost_there : (n : Numbering) (w : List ℕ) (ss : List SymbolTree) (v : ℕ) (p : IsPassing ss v) (u : ℕ) → in_place (fixed_maybe n w ss (symbol_at ss v)) u ≡ true → list_any (λ c. nat_eq c u) (all_lost n w ss ss) ≡ true
lost_there n w ss v p u h =
    of_symbols n w ss ss (v - 1) p.symbol u (numbered_place ss v p.symbol p.is_symbol)
    (in_units p.symbol.place refl (subst (λ o. in_place (fixed_maybe n w ss o) u ≡ true) p.is_symbol h))
  where
    le-from : (a b : ℕ) → nat_le a b ≡ true → a ≤ b
    le-from a b e = grind (arith, nat_tests, e)

    lt-from : (a b : ℕ) → nat_lt a b ≡ true → a < b
    lt-from a b e = grind (arith, nat_tests, e)

    in_units : (q : Place) → p.symbol.place ≡ q → in_place (fixed_place n w ss p.symbol p.symbol.place) u ≡ true → list_any (λ c. nat_eq c u) (lost_units n w ss p.symbol p.symbol.place) ≡ true
    in_units (place.Local b o) e i =
        let first = unit_at n (group w b) o in
        let inside : in_place (fixed_place n w ss p.symbol (place.Local b o)) u ≡ true = subst (λ q. in_place (fixed_place n w ss p.symbol q) u ≡ true) e i in
        let c = and_parts (nat_le first u) (nat_lt u (first + units_in ss p.symbol)) inside in
        subst (λ q. list_any (λ c. nat_eq c u) (lost_units n w ss p.symbol q) ≡ true) (sym e)
        (ap (λ b'. list_any (λ c. nat_eq c u) (if b' then [] else units_from first (units_in ss p.symbol))) p.unsaved ∙ among_units first (units_in ss p.symbol) u (le-from first u c.0) (lt-from u (first + units_in ss p.symbol) c.1))
    in_units (place.Block b o) e i = absurd (no_local (subst (λ q. is_local q ≡ true) e p.local))
      where
        no_local : false ≡ true → ⊥
        no_local z = true≢false (sym z)
    in_units (place.Dummy b) e i = absurd (no_local (subst (λ q. is_local q ≡ true) e p.local))
      where
        no_local : false ≡ true → ⊥
        no_local z = true≢false (sym z)
    in_units (place.Constant b) e i = absurd (no_local (subst (λ q. is_local q ≡ true) e p.local))
      where
        no_local : false ≡ true → ⊥
        no_local z = true≢false (sym z)

module _ (ps : List ParsedTree) (sss : List (List SymbolTree)) (g : Graph) (x : IsProgram ps sss g) where
  abbrev N : Numbering
  N = numbering (known_of ps sss) g

  abbrev of : Known → Routine
  of k = routine (known_of ps sss) g k

  -- a unit of a variable is none of an expression
  named_own : (i : ℕ) (p : ParsedTree) (ss : List SymbolTree) → IsModule ps sss i p ss → (v : ℕ) (s : SymbolTree) (a : Area) (u : ℕ) → symbol_at ss v ≡ Some s → area_of p.module_read.name s.place ≡ Some a → in_place (fixed N (known p ss) v) u ≡ true → is_own_unit N u ≡ false
  named_own i p ss m v s a u e f h =
      let d = declared ps sss i p ss m v s e in
      let q = variables_occupy_their_storage (known_of ps sss) g (known p ss) v s a u d f h in
      let ends = offsets_fit (known_of ps sss) (known p ss) v s d in
      let below = q.below in
      ap (is_own_unit N) q.unit ∙ (temporaries_are_recognisable N a q.distance (omega (arith, ends, below)) ∙ stored_area p.module_read.name s.place a f)

  pub expression_off : (u : ℕ) → is_own_unit N u ≡ true → (k : Known) → IsIn (known_of ps sss) k → IsOutside u (of k)
  expression_off u o k h =
      let m = module_at ps sss h.at k h.is_module in
      subst (λ (z : Known). IsOutside u (of z)) m.same
      (off_from ps sss g x h.at m.parsed m.table m.is_module u (λ y v s a w e f q. true≢false (sym o ∙ named_own h.at m.parsed m.table m.is_module v s a u e f q)))

  -- a module with the local
  record LocalAt (xs : List Known) (u : ℕ) : Type 0 where
    found : Known
    is_in : IsIn (known_of ps sss) found
    has : list_any (λ v. nat_eq v u) (of found).locals ≡ true
    named : Named (map of xs) found.read.name

  local_at : (xs : List Known) → Each (IsIn (known_of ps sss)) xs → (u : ℕ) → IsLocalOf (map of xs) u → LocalAt xs u
  local_at [] h u w = absurd w
  local_at (k ∷ xs) h u w =
      ⊎_elim (λ e. record { found = k; is_in = h.0; has = e; named = inl ((bytes_eq-Decides k.read.name k.read.name).1 refl) })
      (λ b. (let z = local_at xs h.1 u b in record { found = z.found; is_in = z.is_in; has = z.has; named = inr z.named })) w

  pub local_off : (k : Known) → IsIn (known_of ps sss) k → (xs : List Known) → Each (IsIn (known_of ps sss)) xs → Distinct (map of (k ∷ xs)) → (u : ℕ) → IsLocalOf (map of xs) u → IsOutside u (of k)
  local_off k h xs hs d u w =
      let z = local_at xs hs u w in
      let m = module_at ps sss h.at k h.is_module in
      let l = module_at ps sss z.is_in.at z.found z.is_in.is_module in
      let has = subst (λ (y : Known). list_any (λ v. nat_eq v u) (of y).locals ≡ true) (sym l.same) z.has in
      subst (λ (y : Known). IsOutside u (of y)) m.same
      (lost_off ps sss g x u (lost_of ps sss g x z.is_in.at l.parsed l.table l.is_module u has) h.at m.parsed m.table m.is_module (λ e. differ z.found.read.name (d.0 z.found.read.name z.named) (sym (ap (λ (y : Known). y.read.name) m.same) ∙ (e ∙ (ap (λ (q : ParsedTree). q.module_read.name) (lost_in ps sss g x z.is_in.at l.parsed l.table l.is_module u has) ∙ ap (λ (y : Known). y.read.name) l.same)))))
    where
      differ : (y : List ℕ) → bytes_eq y k.read.name ≡ false → (k.read.name ≡ y → ⊥)
      differ y f e = true≢false (sym ((bytes_eq-Decides y k.read.name).1 (sym e)) ∙ f)

  pub all_outside : (xs : List Known) → Each (IsIn (known_of ps sss)) xs → Distinct (map of xs) → AreOutside (units N) (map of xs)
  all_outside [] h d = tt
  all_outside (k ∷ xs) h d = (λ u w. ⊎_elim (λ o. expression_off u o k h.0) (λ b. ⊎_elim (λ l. local_off k h.0 xs h.1 d u l) (λ l. l.1) b) w.0, all_outside xs h.1 d.1)

  -- ---- a local of a module

  module _ (k : Known) (h : IsIn (known_of ps sss) k) (u : ℕ) (l : list_any (λ v. nat_eq v u) (routine (known_of ps sss) g k).locals ≡ true) where
    m : ModuleAt ps sss h.at k
    m = module_at ps sss h.at k h.is_module

    there : list_any (λ v. nat_eq v u) (of (known m.parsed m.table)).locals ≡ true
    there = subst (λ (y : Known). list_any (λ v. nat_eq v u) (of y).locals ≡ true) (sym m.same) l

    pub local_nonzero : nat_eq 0 u ≡ false
    local_nonzero = (let less = lost_some ps sss g x u (lost_of ps sss g x h.at m.parsed m.table m.is_module u there) in grind (arith, nat_tests, less))

    -- it is none of the variables of modules with other names
    pub others_outside : (zs : List Known) → Each (IsIn (known_of ps sss)) zs → ((y : List ℕ) → Named (map of zs) y → bytes_eq y k.read.name ≡ false) → AllOutside u (map of zs)
    others_outside [] is d = tt
    others_outside (z ∷ zs) is d = (
      (let n = module_at ps sss is.0.at z is.0.is_module in
          subst (λ (y : Known). IsOutside u (of y)) n.same
          (lost_off ps sss g x u (lost_of ps sss g x h.at m.parsed m.table m.is_module u there) is.0.at n.parsed n.table n.is_module
          (λ e. differ z.read.name (d z.read.name (inl ((bytes_eq-Decides z.read.name z.read.name).1 refl))) (sym (ap (λ (y : Known). y.read.name) n.same) ∙ (e ∙ (ap (λ (q : ParsedTree). q.module_read.name) (lost_in ps sss g x h.at m.parsed m.table m.is_module u there) ∙ ap (λ (y : Known). y.read.name) m.same)))))),
      others_outside zs is.1 (λ y n. d y (inr n)),
    )
      where
        differ : (y : List ℕ) → bytes_eq y k.read.name ≡ false → y ≡ k.read.name → ⊥
        differ y f e = true≢false (sym ((bytes_eq-Decides y k.read.name).1 e) ∙ f)

  -- ---- a local that no other variable overlaps

  module _ (k : Known) (h : IsIn (known_of ps sss) k) (n : ℕ) (p : IsPassing k.symbols n) (sole : IsSole k.symbols (Own n)) (u : ℕ) (has : in_place (fixed (numbering (known_of ps sss) g) k n) u ≡ true) where
    -- another symbol that has the unit overlaps it
    overlaps : (v : ℕ) (s : SymbolTree) → symbol_at k.symbols v ≡ Some s → (n ≡ v → ⊥) → share k.symbols s p.symbol ≡ true → ⊥
    overlaps v s e other q =
        sole (Own v) (and_from (not (nat_eq v n)) (share_maybe k.symbols (symbol_at k.symbols v) (symbol_at k.symbols n)) (ap not (differ (nat_eq v n) refl)) (ap₂ (share_maybe k.symbols) e p.is_symbol ∙ q))
      where
        differ : (b : Bool) → nat_eq v n ≡ b → b ≡ false
        differ true i = absurd (other (sym (eqb-true v n i)))
        differ false i = refl

    abbrev there_at : ModuleAt ps sss h.at k
    there_at = module_at ps sss h.at k h.is_module

    abbrev p_group : ℕ
    p_group = group_of p.symbol.place

    p_area : (w : List ℕ) → area_of w p.symbol.place ≡ Some (group w (group_of p.symbol.place))
    p_area w = local_area w p.symbol.place p.local

    p_there : symbol_at there_at.table n ≡ Some p.symbol
    p_there = subst (λ ss. symbol_at ss n ≡ Some p.symbol) (sym (ap (λ (w : Known). w.symbols) there_at.same)) p.is_symbol

    has_there : in_place (fixed N (known there_at.parsed there_at.table) n) u ≡ true
    has_there = subst (λ (w : Known). in_place (fixed N w n) u ≡ true) (sym there_at.same) has

    -- no name of another variable reaches the unit, but that of a dummy
    pub others_off : (y : List ℕ) (v : ℕ) → names k.symbols y ≡ Variable v → (n ≡ v → ⊥) → IsNoDummy (dummies_from 1 k.symbols) v → (in_place (fixed (numbering (known_of ps sss) g) k v) u ≡ false) × (nat_eq (fixed (numbering (known_of ps sss) g) k v).first u ≡ false)
    others_off y v e other none =
        subst (λ (w : Known). (in_place (fixed N w v) u ≡ false) × (nat_eq (fixed N w v).first u ≡ false)) there_at.same
        (off_one ps sss g x h.at there_at.parsed there_at.table there_at.is_module u y v (subst (λ ss. names ss y ≡ Variable v) (sym tables) e) (subst (λ ss. IsNoDummy (dummies_from 1 ss) v) (sym tables) none) free)
      where
        tables : there_at.table ≡ k.symbols
        tables = ap (λ (w : Known). w.symbols) there_at.same

        free : (s : SymbolTree) (a : Area) → symbol_at there_at.table v ≡ Some s → area_of there_at.parsed.module_read.name s.place ≡ Some a → in_place (fixed N (known there_at.parsed there_at.table) v) u ≡ true → ⊥
        free s a f q z =
            let symbol : symbol_at k.symbols v ≡ Some s = subst (λ ss. symbol_at ss v ≡ Some s) tables f in
            overlaps v s symbol other
            (shared_by_table (known_of ps sss) g k v n s p.symbol a (group k.read.name p_group) u (record { at = h.at; is_module = h.is_module; is_symbol = symbol }) (record { at = h.at; is_module = h.is_module; is_symbol = p.is_symbol })
            (subst (λ (w : Known). area_of w.read.name s.place ≡ Some a) there_at.same q) (p_area k.read.name) (area_known ps sss g (linked ps sss g x) h.at there_at.parsed there_at.table there_at.is_module v s a f q)
            (subst (λ (w : Known). IsKnown N (group w.read.name p_group)) there_at.same
            (area_known ps sss g (linked ps sss g x) h.at there_at.parsed there_at.table there_at.is_module n p.symbol (group there_at.parsed.module_read.name p_group) p_there (p_area there_at.parsed.module_read.name)))
            (subst (λ (w : Known). in_place (fixed N w v) u ≡ true) there_at.same z) has)

    pub local_has : list_any (λ v. nat_eq v u) (routine (known_of ps sss) g k).locals ≡ true
    local_has = lost_there N k.read.name k.symbols n p u has

    -- it is the unit of no expression
    pub no_expression : is_own_unit (numbering (known_of ps sss) g) u ≡ false
    no_expression = named_own h.at there_at.parsed there_at.table there_at.is_module n p.symbol (group there_at.parsed.module_read.name p_group) u p_there (p_area there_at.parsed.module_read.name) has_there

    -- nor of a local of another module
    pub no_local : (z : Known) → IsIn (known_of ps sss) z → bytes_eq z.read.name k.read.name ≡ false → list_any (λ v. nat_eq v u) (routine (known_of ps sss) g z).locals ≡ false
    no_local z i other = go (list_any (λ v. nat_eq v u) (of z).locals) refl
      where
        l : ModuleAt ps sss i.at z
        l = module_at ps sss i.at z i.is_module

        go : (b : Bool) → list_any (λ v. nat_eq v u) (of z).locals ≡ b → b ≡ false
        go false e = refl
        go true e =
            let lost = subst (λ (y : Known). list_any (λ v. nat_eq v u) (of y).locals ≡ true) (sym l.same) e in
            let o = lost_of ps sss g x i.at l.parsed l.table l.is_module u lost in
            let one : group o.parsed.module_read.name o.storage ≡ group there_at.parsed.module_read.name p_group = same_group ps sss g x u o h.at there_at.parsed there_at.table there_at.is_module n p.symbol (group there_at.parsed.module_read.name p_group) p_there (p_area there_at.parsed.module_read.name) has_there in
            let lies : there_at.parsed.module_read.name ≡ o.parsed.module_read.name = group_at there_at.parsed.module_read.name o.parsed.module_read.name o.storage p.symbol.place (p_area there_at.parsed.module_read.name ∙ ap Some (sym one)) in
            let name : z.read.name ≡ k.read.name = sym (ap (λ (q : ParsedTree). q.module_read.name) (lost_in ps sss g x i.at l.parsed l.table l.is_module u lost) ∙ ap (λ (y : Known). y.read.name) l.same) ∙ (sym lies ∙ ap (λ (y : Known). y.read.name) there_at.same) in
            absurd (true≢false (sym ((bytes_eq-Decides z.read.name k.read.name).1 name) ∙ other))

  -- ---- such a local whose name is that of an intrinsic function

  -- no name stands for it
  module _ (k : Known) (h : IsIn (known_of ps sss) k) (n : ℕ) (p : IsPassing k.symbols n) (function : is_function p.symbol ≡ true) (sole : IsSole k.symbols (Own n)) (u : ℕ) (has : in_place (fixed (numbering (known_of ps sss) g) k n) u ≡ true) where
    not_it : (y : List ℕ) (v : ℕ) → names k.symbols y ≡ Variable v → n ≡ v → ⊥
    not_it y v e same =
        let number = name_number k.symbols y v e in
        let means : names k.symbols y ≡ meant_at v (symbol_at k.symbols v) = ap (meant_in k.symbols) number in
        let here : meant_at v (symbol_at k.symbols v) ≡ Function = ap (λ i. meant_at i (symbol_at k.symbols i)) (sym same) ∙ (ap (meant_at n) p.is_symbol ∙ ap (λ b. if b then Function else meant_by p.symbol.scalar n p.symbol.place) function) in
        variable_function v (sym e ∙ (means ∙ here))
      where
        variable_function : (v : ℕ) → Variable v ≡ Function → ⊥
        variable_function v e = cc

    pub nameless_outside : IsOutside u (routine (known_of ps sss) g k)
    nameless_outside y v e none = others_off k h n p sole u has y v e (not_it y v e) none

    pub nameless_local : list_any (λ v. nat_eq v u) (routine (known_of ps sss) g k).locals ≡ true
    nameless_local = local_has k h n p sole u has
