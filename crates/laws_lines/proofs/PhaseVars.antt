-- The variables of the results of the analyses over the modules of a program.
use Rattle.std.proofs.Common.{◌≡◌, ◌⊎◌, inl, inr, ℕ, zero, suc, ◌+◌, ◌-◌, Bool, true, false, not, ◌&&◌, ◌||◌, List, [], ◌∷◌, ◌++◌, Option, Some, None, Ok, arith, refl, ap, ◌∙◌, subst, nat_eq}
use Rattle.std.specs.Prelude.{if◌then◌else◌, All, map, reverse, slice_get, bytes_eq, is_none, option_to_list}
use Rattle.std.specs.List.{filter}
use Rattle.std.proofs.lemmas.Bool.{or_right, ne_eqb}
use Rattle.affine_systems.specs.declared.row.Var.{Var}
use Rattle.affine_systems.specs.declared.row.Var.TheVariants.{Cell, Exit, Phi, Aux}
use Rattle.affine_systems.specs.declared.row.System.{System}
use Rattle.affine_systems.specs.Terms.{number}
use Rattle.affine_systems.proofs.Basics.{if_cases}
use Rattle.hull_projection.specs.Variables.{row_vars}
use Rattle.hull_projection.specs.Project.{project}
use Rattle.hull_projection.specs.Laws.{IsOneOf}
use Rattle.hull_projection.proofs.VarLaws.{rows_covered}
use Rattle.f77_ast.specs.Trees.{ExprTrees, StmtTree, WhatTree, ArmTree, ArmTrees, ElseTree, LoopTree, StmtTrees}
use Rattle.f77_ast.specs.Trees as tree
use Rattle.f77_ast.specs.DeclTrees.{ParsedTree}
use Rattle.f77_ast.specs.declared.symbol.Place.TheVariants.{Dummy}
use Rattle.f77_ast.specs.declared.variable.Unit.{Unit as BlockUnit}
use Rattle.f77_ast.specs.Symbols.{SymbolTree, number_from}
use Rattle.f77_ast.specs.Shared.{numbered}
use Rattle.f77_ast.specs.declared.results.At.{At}
use Rattle.tracked_cells.specs.Equivalences.{equivalenced_names}
use Rattle.tracked_cells.specs.Standing.{is_int_scalar}
use Rattle.tracked_cells.specs.Tracked.{is_alone, is_tracked, tracked_of}
use Rattle.call_graph.specs.declared.graph.Graph.{Graph}
use Rattle.f77_meaning.specs.Modules.{Known, known_of, symbol_names}
use Rattle.storage_layout.specs.Symbols.{symbols_of}
use Rattle.laws_programs.proofs.SymbolTables.EquivalenceLaws.{dummies_stand_alone}
use Rattle.affine_forms.specs.Scalars.{flag_of, is_cell, if_cell}
use Rattle.preconditions.specs.transformer_algebra.declared.transformer.Transformer.{Transformer}
use Rattle.preconditions.specs.transformer_algebra.Cells.{has}
use Rattle.preconditions.specs.call_translation.Common.{is_unit, tracked_from}
use Rattle.preconditions.specs.call_translation.Sites.{HoldingSite}
use Rattle.preconditions.specs.transformers.Given.{Callees}
use Rattle.preconditions.specs.transformers.Lists.{first_at, or_first, value_at, or_unchanging, transformer_at}
use Rattle.preconditions.specs.transformers.Modules.{is_visible_to_callers, stays_in, hidden_vars, summary_of}
use Rattle.preconditions.specs.transformers.Statement.{list_transformer}
use Rattle.preconditions.specs.Entry.{entry_of}
use Rattle.loop_marker.specs.module_phases.ScalarPhases.{scope_of, place_of, module_at, module_of, Found, no_callees, with_callee, found_of, maybe_found, found_in, Caller, site, stmt_sites, what_sites, list_sites, arms_sites, arm_sites, else_sites, loop_sites, Analysis, caller_of, sites_of, analysis_of, analyses_from, analyses}
use Rattle.laws_programs.specs.Programs.{AreTables}
use Rattle.laws_lines.specs.Variables.{IsOver, IsCellOf}
use Rattle.laws_lines.specs.Halves.{IsHalfOf, IsTransformerOf}
use Rattle.laws_lines.specs.Laws.{IsTracked, AnalysisIsOver, AnalysesAreOverCells}
use Rattle.laws_lines.proofs.SystemVars.{IsNeat, neat_over, system_more, project_neat}
use Rattle.laws_lines.proofs.RuleVars.{IsDone, done_is, unchanging_done}
use Rattle.laws_lines.proofs.CallVars.{Left, SummaryOf, neat_in}
use Rattle.laws_lines.proofs.StatementVars.{AllAt, Scope, body_list_done, at_list_done}
use Rattle.laws_lines.proofs.HoldVars.{at_list_neat}
use Rattle.laws_lines.proofs.SiteVars.{DummiesFrom, SitesOf, entry_neat}
use Rattle.fx_lists.proofs.Booleans.{clash as clashes}
use Rattle.preconditions.proofs.TransformerAlgebra.CellLaws.{has-filter as kept_has}
use Rattle.fx_lists.proofs.Every.{Anything, Every, every_joined, every_turned, every_at}

-- ---- lists

pub each_all : {A : Type 0} (P Q : A → Type 0) → ((x : A) → P x → Q x) → (xs : List A) → Every P xs → All Q xs
each_all P Q f [] h k d l = absurd (omega (arith, l))
each_all P Q f (x ∷ xs) h zero d l = f x h.0
each_all P Q f (x ∷ xs) h (suc k) d l = each_all P Q f xs h.1 k d (omega (arith, l))

at_all : {T : Type 0} (P Q : T → Type 0) → ((v : T) → P v → Q v) → (xs : List (At T)) → AllAt P xs → All (λ (x : At T). Q x.value) xs
at_all P Q f [] h k d l = absurd (omega (arith, l))
at_all P Q f (x ∷ xs) h zero d l = f x.value h.0
at_all P Q f (x ∷ xs) h (suc k) d l = at_all P Q f xs h.1 k d (omega (arith, l))

-- ---- results by numbers

first_is : {T : Type 0} (P : T → Type 0) (n : ℕ) (xs : List (At T)) (v : T) → AllAt P xs → first_at n xs ≡ Some v → P v
first_is P n [] v h e = cc
first_is P n (x ∷ xs) v h e = go (nat_eq x.id n) e (first_is P n xs v h.1)
  where
    go : (b : Bool) → (if b then Some x.value else first_at n xs) ≡ Some v → (first_at n xs ≡ Some v → P v) → P v
    go true q ih = let same : x.value ≡ v = cc in subst P same h.0
    go false q ih = ih q

got_is : {T : Type 0} (P : T → Type 0) (xs : List (At T)) (i : ℕ) (a : At T) → AllAt P xs → slice_get xs i ≡ Some a → P a.value
got_is P [] i a h e = cc
got_is {T} P (x ∷ xs) zero a h e = let same : x ≡ a = cc in subst (λ (z : At T). P z.value) same h.0
got_is P (x ∷ xs) (suc i) a h e = got_is P xs i a h.1 e

numbered_is : {T : Type 0} (P : T → Type 0) (xs : List (At T)) (n : ℕ) (a : At T) → AllAt P xs → numbered xs n ≡ Some a → P a.value
numbered_is P xs n a h e = go (nat_eq n 0) e
  where
    go : (b : Bool) → (if b then None else slice_get xs (n - 1)) ≡ Some a → P a.value
    go true q = cc
    go false q = got_is P xs (n - 1) a h q

pub value_is : {T : Type 0} (P : T → Type 0) (xs : List (At T)) (n : ℕ) (v : T) → AllAt P xs → value_at xs n ≡ Some v → P v
value_is {T} P xs n v h e = go (numbered xs n) refl e
  where
    there : (a : At T) → numbered xs n ≡ Some a → (b : Bool) → (if b then Some a.value else first_at n xs) ≡ Some v → P v
    there a q true k = let same : a.value ≡ v = cc in subst P same (numbered_is P xs n a h q)
    there a q false k = first_is P n xs v h k

    go : (o : Option (At T)) → numbered xs n ≡ o → or_first o n xs ≡ Some v → P v
    go None q k = first_is P n xs v h k
    go (Some a) q k = there a q (nat_eq a.id n) k

pub found_done : (ok : ℕ → Type 0) (xs : List (At Transformer)) → AllAt (IsDone ok) xs → (n : ℕ) → IsDone ok (transformer_at xs n)
found_done ok xs h n = go (value_at xs n) (λ v e. value_is (IsDone ok) xs n v h e)
  where
    go : (o : Option Transformer) → ((v : Transformer) → o ≡ Some v → IsDone ok v) → IsDone ok (or_unchanging o)
    go None f = unchanging_done ok
    go (Some t) f = f t refl

-- ---- the summary of a module

kept_from : (f : ℕ → Bool) (cs : List ℕ) (c : ℕ) → has (filter f cs) c ≡ true → has cs c ≡ true
kept_from f [] c h = h
kept_from f (d ∷ cs) c h = go (f d) h (kept_from f cs c)
  where
    one : (b : Bool) → (b || has (filter f cs) c) ≡ true → (has (filter f cs) c ≡ true → has cs c ≡ true) → (b || has cs c) ≡ true
    one true e ih = refl
    one false e ih = ih e

    go : (g : Bool) → has (if g then d ∷ filter f cs else filter f cs) c ≡ true → (has (filter f cs) c ≡ true → has cs c ≡ true) → (nat_eq d c || has cs c) ≡ true
    go true e ih = one (nat_eq d c) e ih
    go false e ih = or_right (nat_eq d c) (has cs c) (ih e)

filter_has : (f : Var → Bool) (v : Var) (vs : List Var) → IsOneOf v vs → f v ≡ true → IsOneOf v (filter f vs)
filter_has f v [] m e = absurd m
filter_has f v (w ∷ vs) m e = go (f w) refl m (λ k. filter_has f v vs k e)
  where
    go : (b : Bool) → f w ≡ b → (v ≡ w) ⊎ IsOneOf v vs → (IsOneOf v vs → IsOneOf v (filter f vs)) → IsOneOf v (if b then w ∷ filter f vs else filter f vs)
    go true q (inl s) ih = inl s
    go true q (inr k) ih = inr (ih k)
    go false q (inl s) ih = clashes (f v) e (ap f s ∙ q)
    go false q (inr k) ih = ih k

seen_outside : (ss : List SymbolTree) (v : Var) (vs : List Var) → IsOneOf v vs → (IsOneOf v (filter (stays_in ss) vs) → ⊥) → is_visible_to_callers ss (number v) ≡ true
seen_outside ss v vs m n = go (is_visible_to_callers ss (number v)) refl
  where
    go : (b : Bool) → is_visible_to_callers ss (number v) ≡ b → b ≡ true
    go true e = refl
    go false e = absurd (n (filter_has (stays_in ss) v vs m (ap not e)))

summary_done : (ok : ℕ → Type 0) (ss : List SymbolTree) (t : Transformer) → IsDone ok t → IsDone ok (summary_of ss t)
summary_done ok ss t d = record {
  cells = λ c e. d.cells c (kept_from (is_visible_to_callers ss) t.cells c e);
  system = system_more (λ w. In w × (IsOneOf w (hidden_vars ss t.system) → ⊥)) (IsHalfOf ok (filter (is_visible_to_callers ss) t.cells)) stay (project t.system (hidden_vars ss t.system)).system
      (project_neat In t.system (hidden_vars ss t.system) (neat_in (IsHalfOf ok t.cells) xs t.system d.system (rows_covered [] t.system.rows)));
} where
  xs : List Var
  xs = row_vars t.system.rows

  In : Var → Type 0
  In w = IsHalfOf ok t.cells w × IsOneOf w xs

  stay : (v : Var) → In v × (IsOneOf v (hidden_vars ss t.system) → ⊥) → IsHalfOf ok (filter (is_visible_to_callers ss) t.cells) v
  stay (Cell n) p = p.0.0
  stay (Exit n) p = kept_has (is_visible_to_callers ss) t.cells n p.0.0 (seen_outside ss (Exit n) xs p.0.1 p.1)
  stay (Phi n) p = absurd p.0.0
  stay (Aux n) p = absurd p.0.0

-- ---- the cells of a module

pub named_flag : (flags : List Bool) (o : Option ℕ) (c : ℕ) → if_cell flags o ≡ Some c → is_cell flags c ≡ true
named_flag flags None c e = cc
named_flag flags (Some n) c e = go (is_cell flags n) refl e
  where
    go : (b : Bool) → is_cell flags n ≡ b → (if b then Some n else None) ≡ Some c → is_cell flags c ≡ true
    go true q k = let same : n ≡ c = cc in subst (λ (m : ℕ). is_cell flags m ≡ true) same q
    go false q k = cc

-- the flag at a place is set
pub record Flag (n : ℕ) (flags : List Bool) (c : ℕ) : Type 0 where
  pub place : ℕ
  pub is_place : c ≡ n + place
  pub is_set : slice_get flags place ≡ Some true

pub unit_flag : (n : ℕ) (ss : List SymbolTree) (flags : List Bool) (b : List ℕ) (o c : ℕ) → tracked_from n ss flags b o ≡ Some c → Flag n flags c
unit_flag n [] flags b o c e = cc
unit_flag n (s ∷ ss) [] b o c e = cc
unit_flag n (s ∷ ss) (f ∷ fs) b o c e = go f refl (is_unit b o s.place) e (unit_flag (suc n) ss fs b o c)
  where
    later : Flag (suc n) fs c → Flag n (f ∷ fs) c
    later r = record { place = suc r.place; is_place = omega (arith, r.is_place); is_set = r.is_set }

    go : (g : Bool) → f ≡ g → (u : Bool) → (if g && u then Some n else tracked_from (suc n) ss fs b o) ≡ Some c → (tracked_from (suc n) ss fs b o ≡ Some c → Flag (suc n) fs c) → Flag n (f ∷ fs) c
    go true q true k ih = let same : n ≡ c = cc in record { place = zero; is_place = omega (arith, same); is_set = ap (λ (x : Bool). Some x) q }
    go true q false k ih = later (ih k)
    go false q u k ih = later (ih k)

pub set_cell : (flags : List Bool) (k : ℕ) → slice_get flags k ≡ Some true → is_cell flags (suc k) ≡ true
set_cell flags k e =
    let a : suc k - 1 ≡ k = omega arith in
    let z : nat_eq (suc k) 0 ≡ false = ne_eqb (suc k) 0 (λ q. absurd (omega (arith, q))) in
    ap flag_of (ap (λ (b : Bool). if b then None else slice_get flags (suc k - 1)) z ∙ (ap (slice_get flags) a ∙ e))

-- the tracked cells of a module with its table
module _ (untracked : List BlockUnit) (k : Known) where
  scope_flags : Scope (IsTracked untracked k) (scope_of untracked k)
  scope_flags = record {
    allows = record {
      names = λ x c e. named_flag (tracked_of k.read k.symbols untracked) (number_from 1 (symbol_names k.symbols) x) c e;
      units = λ b o c e. let r = unit_flag 1 k.symbols (tracked_of k.read k.symbols untracked) b o c e in
          let q : suc r.place ≡ c = omega (arith, r.is_place) in
          subst (λ (m : ℕ). is_cell (tracked_of k.read k.symbols untracked) m ≡ true) q (set_cell (tracked_of k.read k.symbols untracked) r.place r.is_set);
    };
    flags = λ c e. e;
  }

-- its INTEGER scalar dummies are such
abbrev pub KnownOk : List BlockUnit → Known → Type 0
KnownOk untracked k = DummiesFrom (IsTracked untracked k) 1 k.symbols

-- ---- what statements do

pub record FoundOk (untracked : List BlockUnit) (f : Found) : Type 0 where
  pub known : KnownOk untracked f.known
  pub at : AllAt (IsDone (IsTracked untracked f.known)) f.own.at
  pub summary : IsDone (IsTracked untracked f.known) f.own.summary

abbrev CalleesOk : Callees → Type 0
CalleesOk cs = (x : List ℕ) → SummaryOf (cs x)

more_callees : (untracked : List BlockUnit) (f : Found) (cs : Callees) → FoundOk untracked f → CalleesOk cs → CalleesOk (with_callee (Some f) cs)
more_callees untracked f cs h c x = go (bytes_eq f.known.read.name x)
  where
    any : (v : Var) → IsHalfOf (IsTracked untracked f.known) f.own.summary.cells v → Left f.own.summary.cells v
    any (Cell n) i = tt
    any (Exit n) i = i
    any (Phi n) i = absurd i
    any (Aux n) i = absurd i

    go : (b : Bool) → SummaryOf (if b then Some (record { symbols = f.known.symbols; value = f.own.summary }) else cs x)
    go true = system_more (IsHalfOf (IsTracked untracked f.known) f.own.summary.cells) (Left f.own.summary.cells) any f.own.summary.system h.summary.system
    go false = c x

found_ok : (untracked : List BlockUnit) (cs : Callees) (k : Known) → KnownOk untracked k → CalleesOk cs → FoundOk untracked (found_of untracked cs k)
found_ok untracked cs k h c =
    let ok = IsTracked untracked k in
    let m = scope_of untracked k in
    let a = scope_flags untracked k in
    record {
      known = h;
      at = at_list_done ok m a cs c k.read.body true;
      summary = summary_done ok k.symbols (list_transformer k.read.body m cs true) (body_list_done ok m a cs c k.read.body true);
    }

founds_ok : (untracked : List BlockUnit) (ks : List Known) → ((x : List ℕ) (k : Known) → module_of ks x ≡ Some k → KnownOk untracked k) → (cs : Callees) (xs : List (List ℕ)) → CalleesOk cs → Every (FoundOk untracked) (found_in untracked ks cs xs)
founds_ok untracked ks known cs [] c = tt
founds_ok untracked ks known cs (x ∷ xs) c = go (module_of ks x) refl (λ ds d. founds_ok untracked ks known ds xs d)
  where
    go : (o : Option Known) → module_of ks x ≡ o → ((ds : Callees) → CalleesOk ds → Every (FoundOk untracked) (found_in untracked ks ds xs)) → Every (FoundOk untracked) (option_to_list (maybe_found untracked cs o) ++ found_in untracked ks (with_callee (maybe_found untracked cs o) cs) xs)
    go None e ih = ih (with_callee None cs) (λ y. c y)
    go (Some k) e ih =
        let f = found_ok untracked cs k (known x k e) c in
        (f, ih (with_callee (Some (found_of untracked cs k)) cs) (more_callees untracked (found_of untracked cs k) cs f c))

-- ---- what holds

pub record AnalysisOk (untracked : List BlockUnit) (a : Analysis) : Type 0 where
  pub found : FoundOk untracked a.found
  pub at : AllAt (IsNeat (IsCellOf (IsTracked untracked a.found.known))) a.holds.at
  pub entry : IsNeat (IsCellOf (IsTracked untracked a.found.known)) a.holds.summary

sites-append : (cs ds : List HoldingSite) → SitesOf cs → SitesOf ds → SitesOf (cs ++ ds)
sites-append [] ds h k = k
sites-append (c ∷ cs) ds h k = (h.0, sites-append cs ds h.1 k)

module _ (c : Caller) (ok : ℕ → Type 0) (holds : (n : ℕ) (s : System) → c.holds n ≡ Some s → IsNeat (IsCellOf ok) s) where
  any_cell : (v : Var) → IsCellOf ok v → IsCellOf Anything v
  any_cell (Cell n) h = tt
  any_cell (Exit n) h = absurd h
  any_cell (Phi n) h = absurd h
  any_cell (Aux n) h = absurd h

  site_is : (es : ExprTrees) (o : Option System) → ((s : System) → o ≡ Some s → IsNeat (IsCellOf ok) s) → SitesOf (site c.scope es o)
  site_is es None f = tt
  site_is es (Some p) f = (system_more (IsCellOf ok) (IsCellOf Anything) any_cell p (f p refl), tt)

  mutual
    stmt_sites_are : (s : StmtTree) (x : List ℕ) → SitesOf (stmt_sites s c x)
    stmt_sites_are (tree.stmt n label w) x = what_sites_are w n x

    what_sites_are : (w : WhatTree) (n : ℕ) (x : List ℕ) → SitesOf (what_sites w n c x)
    what_sites_are (tree.assign a b) n x = tt
    what_sites_are (tree.block_if arms other) n x = sites-append (arms_sites arms c x) (else_sites other c x) (arms_sites_are arms x) (else_sites_are other x)
    what_sites_are (tree.logical_if e s) n x = stmt_sites_are s x
    what_sites_are (tree.do_loop l) n x = loop_sites_are l x
    what_sites_are (tree.call y es) n x =
        if_cases SitesOf (bytes_eq y x) (site c.scope es (c.holds n)) [] (λ e. site_is es (c.holds n) (λ s k. holds n s k)) (λ e. tt)
    what_sites_are (tree.goto l) n x = tt
    what_sites_are tree.continue n x = tt
    what_sites_are tree.return n x = tt
    what_sites_are (tree.stop text) n x = tt
    what_sites_are (tree.print es) n x = tt
    what_sites_are (tree.read es) n x = tt

    pub list_sites_are : (ss : StmtTrees) (x : List ℕ) → SitesOf (list_sites ss c x)
    list_sites_are tree.no_stmts x = tt
    list_sites_are (tree.more_stmts s rest) x = sites-append (stmt_sites s c x) (list_sites rest c x) (stmt_sites_are s x) (list_sites_are rest x)

    arms_sites_are : (as' : ArmTrees) (x : List ℕ) → SitesOf (arms_sites as' c x)
    arms_sites_are tree.no_arms x = tt
    arms_sites_are (tree.more_arms a rest) x = sites-append (arm_sites a c x) (arms_sites rest c x) (arm_sites_are a x) (arms_sites_are rest x)

    arm_sites_are : (a : ArmTree) (x : List ℕ) → SitesOf (arm_sites a c x)
    arm_sites_are (tree.arm test body) x = list_sites_are body x

    else_sites_are : (e : ElseTree) (x : List ℕ) → SitesOf (else_sites e c x)
    else_sites_are tree.no_else x = tt
    else_sites_are (tree.otherwise body) x = list_sites_are body x

    loop_sites_are : (l : LoopTree) (x : List ℕ) → SitesOf (loop_sites l c x)
    loop_sites_are (tree.loop index first last step body) x = list_sites_are body x

sites_are : (untracked : List BlockUnit) (as' : List Analysis) (x : List ℕ) → Every (AnalysisOk untracked) as' → SitesOf (sites_of untracked as' x)
sites_are untracked [] x h = tt
sites_are untracked (a ∷ as') x h =
    let C = IsNeat (IsCellOf (IsTracked untracked a.found.known)) in
    sites-append (list_sites a.found.known.read.body (caller_of untracked a) x) (sites_of untracked as' x)
    (list_sites_are (caller_of untracked a) (IsTracked untracked a.found.known) (λ n s e. value_is C a.holds.at n s h.0.at e) a.found.known.read.body x)
    (sites_are untracked as' x h.1)

analysis_ok : (untracked : List BlockUnit) (cs : List HoldingSite) (f : Found) → FoundOk untracked f → SitesOf cs → AnalysisOk untracked (analysis_of untracked cs f)
analysis_ok untracked cs f h s =
    let ok = IsTracked untracked f.known in
    let m = scope_of untracked f.known in
    let a = scope_flags untracked f.known in
    let entry = entry_of f.known.read.main m cs in
    let e = entry_neat ok m a h.known f.known.read.main cs s in
    record { found = h; at = at_list_neat ok m a (transformer_at f.own.at) (found_done ok f.own.at h.at) true f.known.read.body entry e; entry = e }

all_ok : (untracked : List BlockUnit) (done : List Analysis) (fs : List Found) → Every (AnalysisOk untracked) done → Every (FoundOk untracked) fs → Every (AnalysisOk untracked) (analyses_from untracked done fs)
all_ok untracked done [] d h = d
all_ok untracked done (f ∷ fs) d h =
    let cs = sites_of untracked done f.known.read.name in
    let a = analysis_ok untracked cs f h.0 (sites_are untracked done f.known.read.name d) in
    all_ok untracked (done ++ analysis_of untracked cs f ∷ []) fs (every_joined (AnalysisOk untracked) done (analysis_of untracked cs f ∷ []) d (a, tt)) h.1

-- ---- modules with their tables

got_map : {A B : Type 0} (f : A → B) (xs : List A) (i : ℕ) (x : A) → slice_get xs i ≡ Some x → slice_get (map f xs) i ≡ Some (f x)
got_map f [] i x e = cc
got_map f (y ∷ xs) zero x e = let same : y ≡ x = cc in ap (λ z. Some (f z)) same
got_map f (y ∷ xs) (suc i) x e = got_map f xs i x e

all_true : (x y z : Bool) → x ≡ true → y ≡ true → z ≡ true → ((x && y) && z) ≡ true
all_true true true true e f g = refl
all_true true true false e f g = g
all_true true false z e f g = f
all_true false y z e f g = e

dummies_from_each : (ok : ℕ → Type 0) (n : ℕ) (ss : List SymbolTree) → ((i d : ℕ) (s : SymbolTree) → slice_get ss i ≡ Some s → is_int_scalar s ≡ true → s.place ≡ Dummy d → ok (n + i)) → DummiesFrom ok n ss
dummies_from_each ok n [] f = tt
dummies_from_each ok n (s ∷ ss) f = (
  (λ d e p. let q : n + 0 ≡ n = omega arith in subst ok q (f 0 d s refl e p)),
  dummies_from_each ok (suc n) ss (λ i d t e k p. let q : n + suc i ≡ suc n + i = omega arith in subst ok q (f (suc i) d t e k p)),
)

known_ok : (untracked : List BlockUnit) (p : ParsedTree) (ss : List SymbolTree) → symbols_of p ≡ Ok ss → KnownOk untracked (record { read = p.module_read; symbols = ss })
known_ok untracked p ss e =
    let names = equivalenced_names p.module_read in
    let test = is_tracked names ss untracked in
    dummies_from_each (IsTracked untracked (record { read = p.module_read; symbols = ss })) 1 ss
    (λ i d s g k q.
    let alone = dummies_stand_alone p ss e i d s g q in
    let t : test s ≡ true = all_true (is_int_scalar s) (is_none (number_from 0 names s.name)) (is_alone names ss untracked s.place) k (ap is_none alone) (ap (is_alone names ss untracked) q) in
    let r : suc i ≡ 1 + i = omega arith in
    subst (λ (m : ℕ). is_cell (map test ss) m ≡ true) r (set_cell (map test ss) i (got_map test ss i s g ∙ ap (λ (b : Bool). Some b) t)))

knowns_ok : (untracked : List BlockUnit) (ps : List ParsedTree) (sss : List (List SymbolTree)) → AreTables ps sss → Every (KnownOk untracked) (known_of ps sss)
knowns_ok untracked [] sss t = tt
knowns_ok untracked (p ∷ ps) [] t = tt
knowns_ok untracked (p ∷ ps) (ss ∷ sss) t = (known_ok untracked p ss t.0, knowns_ok untracked ps sss t.1)

module_ok : (untracked : List BlockUnit) (ks : List Known) → Every (KnownOk untracked) ks → (x : List ℕ) (k : Known) → module_of ks x ≡ Some k → KnownOk untracked k
module_ok untracked ks h x k e = go (place_of ks x) e
  where
    go : (o : Option ℕ) → module_at ks o ≡ Some k → KnownOk untracked k
    go None q = cc
    go (Some i) q = every_at (KnownOk untracked) ks i k h q

analysis_is : (untracked : List BlockUnit) (a : Analysis) → AnalysisOk untracked a → AnalysisIsOver untracked a
analysis_is untracked a h =
    let ok = IsTracked untracked a.found.known in
    record {
      at = at_all (IsNeat (IsCellOf ok)) (IsOver (IsCellOf ok)) (neat_over (IsCellOf ok)) a.holds.at h.at;
      entry = neat_over (IsCellOf ok) a.holds.summary h.entry;
      own = at_all (IsDone ok) (IsTransformerOf ok) (done_is ok) a.found.own.at h.found.at;
      summary = done_is ok a.found.own.summary h.found.summary;
    }

pub analyses_ok : (ps : List ParsedTree) (sss : List (List SymbolTree)) (g : Graph) → AreTables ps sss → Every (AnalysisOk g.untracked) (analyses (known_of ps sss) g)
analyses_ok ps sss g t =
    let ks = known_of ps sss in
    let founds = founds_ok g.untracked ks (module_ok g.untracked ks (knowns_ok g.untracked ps sss t)) no_callees g.order (λ x. tt) in
    let fs = found_in g.untracked ks no_callees g.order in
    all_ok g.untracked [] (reverse fs) tt (every_turned (FoundOk g.untracked) fs founds)

pub analyses_are_over_cells : AnalysesAreOverCells
analyses_are_over_cells ps sss g t =
    each_all (AnalysisOk g.untracked) (AnalysisIsOver g.untracked) (analysis_is g.untracked) (analyses (known_of ps sss) g) (analyses_ok ps sss g t)
