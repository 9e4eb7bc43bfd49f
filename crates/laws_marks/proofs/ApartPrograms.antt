-- Programs that are read: in every run no other variable of the module that runs reaches a local that is not saved.
use Rattle.std.proofs.Common.{◌≡◌, inl, inr, ℕ, zero, suc, ◌+◌, ◌-◌, ◌<◌, List, [], ◌∷◌, ◌++◌, map, Some, None, Bool, true, false, refl, sym, ap, ◌∙◌, subst, arith, nat_eq, bytes_eq, true≢false}
use Rattle.std.specs.Prelude.{slice_get}
use Rattle.std.proofs.lemmas.Bool.{eqb-true}
use Rattle.std.proofs.lemmas.Bool.Decides.{nat_tests}
use Rattle.std.proofs.lemmas.Slice.Eq.{bytes_eq-Decides}
use Rattle.f77_ast.specs.DeclTrees.{ParsedTree}
use Rattle.f77_ast.specs.Store.{Content}
use Rattle.f77_ast.specs.Places.{Variable, Place, Places}
use Rattle.f77_ast.specs.Writes.{no_locks}
use Rattle.f77_ast.specs.Calls.{Dummy, scalars_bound, arrays_bound, in_place}
use Rattle.f77_ast.specs.Programs.{Routine, Program, program_plan}
use Rattle.f77_ast.specs.declared.symbol.Place.{Place as SymbolPlace}
use Rattle.f77_ast.specs.declared.symbol.Place.TheVariants as place
use Rattle.f77_ast.specs.Symbols.{SymbolTree}
use Rattle.f77_ast.specs.Shared.{symbol_at}
use Rattle.f77_ast.specs.Units.{units_in}
use Rattle.f77_ast.specs.declared.variable.Variable.TheVariants.{Own}
use Rattle.f77_ast.proofs.StorageLaws.{from_number as numbered_place}
use Rattle.call_graph.specs.Visible.{is_local}
use Rattle.call_graph.specs.CallsIn.{Each}
use Rattle.call_graph.specs.declared.graph.Graph.{Graph}
use Rattle.f77_meaning.specs.Areas.{Numbering, own, is_own_unit}
use Rattle.f77_meaning.specs.Modules.{Known, known_of, names, as_dummy, dummies_from, fixed_place, fixed_maybe, fixed}
use Rattle.f77_meaning.specs.Linked.{numbering, routine, main_of, program_of}
use Rattle.f77_meaning.proofs.ModuleLaws.{has_room}
use Rattle.f77_meaning.proofs.UnitLaws.{temporaries_are_recognisable}
use Rattle.laws_programs.specs.Programs.{IsProgram}
use Rattle.laws_programs.proofs.Storage.ModuleLaws.{known_module}
use Rattle.laws_programs.proofs.Effects.Once.{main_of_linked as some_main}
use Rattle.laws_analyses.proofs.IntegerLaws.{integers_fit}
use Rattle.laws_analyses.proofs.MainLaws.{MainOf, main_from}
use Rattle.laws_analyses.proofs.Modules.{IsIn, subs, subs_in, subs_are}
use Rattle.laws_analyses.proofs.UnitLaws.{module_at}
use Rattle.laws_interleavings.specs.Typed.{IsNoDummy}
use Rattle.laws_interleavings.specs.Plans.Cleared.{OffPlaces}
use Rattle.laws_interleavings.proofs.Plans.Cleared.{yields_both}
use Rattle.laws_interleavings.proofs.Plans.Fine.{Yields}
use Rattle.laws_marks.specs.ConflictClaims.{IsSole}
use Rattle.laws_marks.specs.ConflictExecutions.{Execution, AtEachExecution}
use Rattle.laws_marks.specs.Standings.{OthersAreApart, AllLocalsAreApart, LocalsStayApart}
use Rattle.laws_marks.specs.Units.{IsPassing}
use Rattle.laws_marks.proofs.Apart.{linked, laid}
use Rattle.laws_marks.proofs.ConflictEach.{plan_more}
use Rattle.laws_marks.proofs.Inactive.{at_once}
use Rattle.laws_marks.proofs.LocalsApart.{IsFreeOf, AllFree, arrays_free, scalars_free, scalars_stay, arrays_stay, Here, Stays, AllStay, program_stays}
use Rattle.laws_marks.proofs.Order.{Named, names_once, names_distinct}
use Rattle.laws_marks.proofs.Sizes.{units_positive}
use Rattle.laws_marks.proofs.Spots.{at_spots}
use Rattle.laws_marks.proofs.Typed.{variables_have_types}
use Rattle.laws_marks.proofs.Units.{others_off, local_has, no_expression, local_nonzero, others_outside}

-- ---- a local is no dummy

no_dummy_both : (ds es : List Dummy) (v : ℕ) → IsNoDummy ds v → IsNoDummy es v → IsNoDummy (ds ++ es) v
no_dummy_both [] es v h k = k
no_dummy_both (d ∷ ds) es v h k = (h.0, no_dummy_both ds es v h.1 k)

-- dummies from a number on are no variable before it
one_before : (n : ℕ) (s : SymbolTree) (q : SymbolPlace) (v : ℕ) → nat_eq v n ≡ false → IsNoDummy (as_dummy n s q) v
one_before n s (place.Local g o) v h = tt
one_before n s (place.Dummy k) v h = (h, tt)
one_before n s (place.Block b o) v h = tt
one_before n s (place.Constant c) v h = tt

differ : (a b : ℕ) → a < b → nat_eq a b ≡ false
differ a b h = grind (arith, nat_tests, h)

all_before : (n : ℕ) (ss : List SymbolTree) (v : ℕ) → v < n → IsNoDummy (dummies_from n ss) v
all_before n [] v h = tt
all_before n (s ∷ ss) v h = no_dummy_both (as_dummy n s s.place) (dummies_from (suc n) ss) v (one_before n s s.place v (differ v n h)) (all_before (suc n) ss v (omega (arith, h)))

none_here : (n : ℕ) (s : SymbolTree) (q : SymbolPlace) (v : ℕ) → is_local q ≡ true → IsNoDummy (as_dummy n s q) v
none_here n s (place.Local g o) v h = tt
none_here n s (place.Dummy k) v h = absurd (true≢false (sym h))
none_here n s (place.Block b o) v h = tt
none_here n s (place.Constant c) v h = tt

local_there : (n : ℕ) (ss : List SymbolTree) (i v : ℕ) (s : SymbolTree) → v ≡ n + i → slice_get ss i ≡ Some s → is_local s.place ≡ true → IsNoDummy (dummies_from n ss) v
local_there n [] i v s e h l = cc
local_there n (t ∷ ss) zero v s e h l =
    let same : t ≡ s = (let z : Some t ≡ Some s = h in cc) in
    no_dummy_both (as_dummy n t t.place) (dummies_from (suc n) ss) v (none_here n t t.place v (ap (λ (z : SymbolTree). is_local z.place) same ∙ l)) (all_before (suc n) ss v (omega (arith, e)))
local_there n (t ∷ ss) (suc i) v s e h l =
    no_dummy_both (as_dummy n t t.place) (dummies_from (suc n) ss) v (one_before n t t.place v (later v n i e)) (local_there (suc n) ss i v s (omega (arith, e)) h l)
  where
    later : (v n i : ℕ) → v ≡ n + suc i → nat_eq v n ≡ false
    later v n i e = grind (arith, nat_tests, e)

local_no_dummy : (ss : List SymbolTree) (n : ℕ) (p : IsPassing ss n) → IsNoDummy (dummies_from 1 ss) n
local_no_dummy ss zero p = (let z : None ≡ Some p.symbol = p.is_symbol in absurd (none z))
  where
    none : None ≡ Some p.symbol → ⊥
    none z = cc
local_no_dummy ss (suc k) p = local_there 1 ss k (suc k) p.symbol (one k) (ap (slice_get ss) (less k) ∙ numbered_place ss (suc k) p.symbol p.is_symbol) p.local
  where
    one : (k : ℕ) → suc k ≡ 1 + k
    one k = omega arith

    less : (k : ℕ) → k ≡ suc k - 1
    less k = omega arith

-- ---- one local of a module

module _ (ps : List ParsedTree) (sss : List (List SymbolTree)) (g : Graph) (x : IsProgram ps sss g) (turns : ℕ) where
  abbrev N : Numbering
  N = numbering (known_of ps sss) g

  abbrev of : Known → Routine
  of z = routine (known_of ps sss) g z

  module _ (k : Known) (h : IsIn (known_of ps sss) k) (n : ℕ) (p : IsPassing k.symbols n) (sole : IsSole k.symbols (Own n)) where
    -- its first unit
    abbrev u : ℕ
    u = (fixed (numbering (known_of ps sss) g) k n).first

    first_there : (q : Place) → 0 < q.extent → in_place q q.first ≡ true
    first_there q e = grind (arith, nat_tests, e)

    -- it has one
    some_unit : 0 < (fixed (numbering (known_of ps sss) g) k n).extent
    some_unit =
        let m = module_at ps sss h.at k h.is_module in
        subst (λ (z : Known). 0 < (fixed N z n).extent) m.same
        (subst (λ o. 0 < (fixed_maybe N m.parsed.module_read.name m.table o).extent) (sym (there m.table (ap (λ (z : Known). z.symbols) (sym m.same))))
        (by m.parsed.module_read.name m.table p.symbol.place p.local
        (units_positive m.parsed m.table (laid ps sss g x h.at m.parsed m.table m.is_module) (integers_fit x.lines ps sss x.parsed x.tables h.at m.parsed m.table m.is_module) n p.symbol (there m.table (ap (λ (z : Known). z.symbols) (sym m.same))) (no_constant p.symbol.place p.local) (no_dummy p.symbol.place p.local))))
      where
        there : (ss : List SymbolTree) → k.symbols ≡ ss → symbol_at ss n ≡ Some p.symbol
        there ss e = subst (λ ss. symbol_at ss n ≡ Some p.symbol) e p.is_symbol

        no_constant : (q : SymbolPlace) → is_local q ≡ true → (c : _) → q ≡ place.Constant c → ⊥
        no_constant q l c e = true≢false (sym l ∙ ap is_local e)

        no_dummy : (q : SymbolPlace) → is_local q ≡ true → (d : ℕ) → q ≡ place.Dummy d → ⊥
        no_dummy q l d e = true≢false (sym l ∙ ap is_local e)

        by : (w : List ℕ) (ss : List SymbolTree) (q : SymbolPlace) → is_local q ≡ true → 0 < units_in ss p.symbol → 0 < (fixed_place N w ss p.symbol q).extent
        by w ss (place.Local b o) l e = e
        by w ss (place.Dummy d) l e = absurd (true≢false (sym l))
        by w ss (place.Block b o) l e = absurd (true≢false (sym l))
        by w ss (place.Constant c) l e = absurd (true≢false (sym l))

    has : in_place (fixed (numbering (known_of ps sss) g) k n) (fixed (numbering (known_of ps sss) g) k n).first ≡ true
    has = first_there (fixed (numbering (known_of ps sss) g) k n) some_unit

    nonzero : nat_eq 0 (fixed (numbering (known_of ps sss) g) k n).first ≡ false
    nonzero = local_nonzero ps sss g x k h (fixed (numbering (known_of ps sss) g) k n).first (local_has ps sss g x k h n p sole (fixed (numbering (known_of ps sss) g) k n).first has)

    no_own : (z : Known) (call at : ℕ) → nat_eq ((routine (known_of ps sss) g z).own_unit call at) (fixed (numbering (known_of ps sss) g) k n).first ≡ false
    no_own z call at = go (nat_eq ((of z).own_unit call at) u) refl
      where
        go : (b : Bool) → nat_eq ((of z).own_unit call at) u ≡ b → b ≡ false
        go false e = refl
        go true e =
            let same : (of z).own_unit call at ≡ u = eqb-true ((of z).own_unit call at) u e in
            absurd (true≢false (sym (temporaries_are_recognisable N (own z.read.name call at) 0 (has_room (known_of ps sss))) ∙ (ap (is_own_unit N) same ∙ no_expression ps sss g x k h n p sole u has)))

    -- another variable that some name stands for
    abbrev IsOtherName : ℕ → Type 0
    IsOtherName v = (y : List ℕ) × (names k.symbols y ≡ Variable v) × (v ≡ n → ⊥)

    -- places of the module: the local is where it was laid, and no other variable reaches it
    abbrev pub Good : Places → Type 0
    Good at = (at n ≡ fixed (numbering (known_of ps sss) g) k n) × AllFree (fixed (numbering (known_of ps sss) g) k n).first IsOtherName at

    own_place : IsNoDummy (dummies_from 1 k.symbols) n
    own_place = local_no_dummy k.symbols n p

    others_free : (qs : List Place) → OffPlaces (fixed (numbering (known_of ps sss) g) k n).first no_locks qs → AllFree (fixed (numbering (known_of ps sss) g) k n).first IsOtherName (scalars_bound (dummies_from 1 k.symbols) qs (fixed (numbering (known_of ps sss) g) k))
    others_free qs o v i = scalars_free u (dummies_from 1 k.symbols) qs (fixed N k) v nonzero o (λ d. others_off ps sss g x k h n p sole u has i.0 v i.1 (λ e. i.2 (sym e)) d)

    begins : (qs : List Place) → OffPlaces (fixed (numbering (known_of ps sss) g) k n).first no_locks qs → Good (scalars_bound (dummies_from 1 k.symbols) qs (fixed (numbering (known_of ps sss) g) k))
    begins qs o = (scalars_stay (dummies_from 1 k.symbols) qs (fixed N k) n own_place, others_free qs o)

    bounds : (qs : List Place) → OffPlaces (fixed (numbering (known_of ps sss) g) k n).first no_locks qs → Yields Good (arrays_bound (dummies_from 1 k.symbols) qs (names k.symbols) (scalars_bound (dummies_from 1 k.symbols) qs (fixed (numbering (known_of ps sss) g) k)))
    bounds qs o =
        let at = scalars_bound (dummies_from 1 k.symbols) qs (fixed N k) in
        let t = arrays_bound (dummies_from 1 k.symbols) qs (names k.symbols) at in
        yields_both u (λ (at' : Places). at' n ≡ fixed N k n) (AllFree u IsOtherName) t
        (arrays_stay (dummies_from 1 k.symbols) qs (names k.symbols) at n (fixed N k n) own_place (scalars_stay (dummies_from 1 k.symbols) qs (fixed N k) n own_place))
        (arrays_free u IsOtherName (dummies_from 1 k.symbols) qs (names k.symbols) at nonzero o (others_free qs o))

    -- a module of the name is this one
    same_module : (z : Known) → IsIn (known_of ps sss) z → bytes_eq z.read.name k.read.name ≡ true → k ≡ z
    same_module z i e =
        let at : h.at ≡ i.at = names_once ps sss g (linked ps sss g x) h.at i.at k z h.is_module i.is_module (sym ((bytes_eq-Decides z.read.name k.read.name).0 e)) in
        let one : Some k ≡ Some z = sym h.is_module ∙ ap (slice_get (known_of ps sss)) at ∙ i.is_module in
        cc

    stays : (z : Known) → IsIn (known_of ps sss) z → Stays (fixed (numbering (known_of ps sss) g) k n).first nonzero k.read.name Good turns (routine (known_of ps sss) g z)
    stays z i = record {
      off = λ e. (others_outside ps sss g x k h u (local_has ps sss g x k h n p sole u has) (z ∷ []) (i, tt) (λ y d. of_name y e d)).0;
      own = λ a b. no_own z a b;
      begin = λ e. subst (λ (w : Known). (qs : List Place) → OffPlaces u no_locks qs → Good (scalars_bound (of w).dummies qs (of w).fixed)) (same_module z i e) begins;
      bound = λ e. subst (λ (w : Known). (qs : List Place) → OffPlaces u no_locks qs → Yields Good (arrays_bound (of w).dummies qs (of w).names (scalars_bound (of w).dummies qs (of w).fixed))) (same_module z i e) bounds;
    }
      where
        of_name : (y : List ℕ) → bytes_eq z.read.name k.read.name ≡ false → Named (map of (z ∷ [])) y → bytes_eq y k.read.name ≡ false
        of_name y e (inl d) = subst (λ (w : List ℕ). bytes_eq w k.read.name ≡ false) (sym ((bytes_eq-Decides y z.read.name).0 d)) e
        of_name y e (inr d) = absurd d

    all_stay : (zs : List Known) → Each (IsIn (known_of ps sss)) zs → AllStay (fixed (numbering (known_of ps sss) g) k n).first nonzero k.read.name Good turns (map of zs)
    all_stay [] i = tt
    all_stay (z ∷ zs) i = (stays z i.0, all_stay zs i.1)

    reaches : (at : Places) → Good at → OthersAreApart k.symbols at n
    reaches at f y v e other =
        let free : IsFreeOf (at n).first (at v) = subst (λ (q : Place). IsFreeOf q.first (at v)) (sym f.0) (f.1 v (y, e, other)) in
        (free.1, λ w i. off w i free.0)
      where
        off : (w : ℕ) → in_place (at v) w ≡ true → in_place (at v) (at n).first ≡ false → nat_eq w (at n).first ≡ false
        off w i e = go (nat_eq w (at n).first) refl
          where
            go : (b : Bool) → nat_eq w (at n).first ≡ b → b ≡ false
            go true q = absurd (true≢false (sym i ∙ (ap (in_place (at v)) (eqb-true w (at n).first q) ∙ e)))
            go false q = refl

    -- at each execution in the module
    abbrev pub Claimed : Execution → Type 0
    Claimed e = bytes_eq e.spot.module_name k.read.name ≡ true → OthersAreApart k.symbols e.places n

    main_is : MainOf ps sss
    main_is = main_from ps sss x.tables (some_main ps sss g x.links)

    main_in : IsIn (known_of ps sss) (main_of (known_of ps sss))
    main_in = subst (IsIn (known_of ps sss)) (sym main_is.is_main) (record { at = main_is.at; is_module = known_module ps sss main_is.at main_is.parsed main_is.table main_is.is_module })

    abbrev P : Program
    P = program_of (known_of ps sss) g

    pub one_local : (i : List Content) → AtEachExecution Claimed (program_plan (program_of (known_of ps sss) g) turns) (program_of (known_of ps sss) g).initial i
    one_local i =
        at_spots (Here u nonzero k.read.name Good turns) Claimed (λ e w q. reaches e.places (w q)) (program_plan P turns)
        (program_stays u nonzero k.read.name Good turns P (variables_have_types ps sss g x).no_dummies
        (subst (λ rs. AllStay u nonzero k.read.name Good turns (of (main_of (known_of ps sss)) ∷ rs)) (subs_are (known_of ps sss) g g.order) (all_stay (main_of (known_of ps sss) ∷ subs (known_of ps sss) g.order) (main_in, subs_in (known_of ps sss) g.order)))
        (names_distinct ps sss g x)) P.initial i

  -- ---- all of them at once

  record Local : Type 0 where
    module_known : Known
    is_in : IsIn (known_of ps sss) module_known
    number : ℕ
    passing : IsPassing module_known.symbols number
    sole : IsSole module_known.symbols (Own number)

  abbrev ClaimedOf : Local → Execution → Type 0
  ClaimedOf l = Claimed l.module_known l.is_in l.number l.passing l.sole

pub locals_stay_apart : LocalsStayApart
locals_stay_apart ps sss g x turns i =
    let p = program_of (known_of ps sss) g in
    plan_more (λ e. (l : Local ps sss g x turns) → ClaimedOf ps sss g x turns l e) (AllLocalsAreApart (known_of ps sss))
    (λ e f j k m q n pass sole. f (record { module_known = k; is_in = record { at = j; is_module = m }; number = n; passing = pass; sole = sole }) ((bytes_eq-Decides e.spot.module_name k.read.name).1 (sym q))) (program_plan p turns) p.initial i
    (at_once (ClaimedOf ps sss g x turns) (program_plan p turns) p.initial i (λ l. one_local ps sss g x turns l.module_known l.is_in l.number l.passing l.sole i))
