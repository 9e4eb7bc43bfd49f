-- What callers know of a module allows all that it does, but for the units that pass away with it.
use Rattle.std.proofs.Common.{◌≡◌, ◌⊎◌, inl, inr, ℕ, true, false, List, [], length, Some, refl, sym, ap, subst, arith}
use Rattle.std.specs.Prelude.{filter, bytes_eq, nat_eq, slice_get}
use Rattle.std.proofs.lemmas.Bool.{and_from}
use Rattle.std.proofs.lemmas.Slice.Eq.{bytes_eq-Decides}
use Rattle.f77_ast.specs.Places.{Place, Places}
use Rattle.f77_ast.specs.Statements.{spot}
use Rattle.f77_ast.specs.Calls.{in_place}
use Rattle.f77_ast.specs.declared.variable.Variable.{Variable}
use Rattle.f77_ast.specs.declared.variable.Variable.TheVariants.{Own, Block, Saved}
use Rattle.f77_ast.specs.Symbols.{SymbolTree, number_from}
use Rattle.f77_ast.specs.Shared.{symbol_at}
use Rattle.call_graph.specs.declared.graph.Graph.{Graph}
use Rattle.call_graph.specs.Actuals.{has_bounds}
use Rattle.f77_ast.specs.declared.effect_set.EffectSet.{EffectSet}
use Rattle.f77_ast.specs.Variables.{union}
use Rattle.f77_ast.specs.Effects.{no_effect}
use Rattle.f77_meaning.specs.Modules.{Known, symbol_names, fixed}
use Rattle.f77_meaning.specs.Linked.{numbering}
use Rattle.f77_meaning.specs.Accesses.{is_entry_of}
use Rattle.effects.specs.List.{Callees, with_list}
use Rattle.effects.specs.Modules.{with_symbols}
use Rattle.laws_programs.specs.Effects.Laws.{summary_for}
use Rattle.laws_programs.proofs.Effects.Named.{key, Stands, in_union, in_filtered}
use Rattle.laws_programs.proofs.Effects.Access.{Access, Reading, Writing, Allowed, Under}
use Rattle.laws_programs.proofs.Effects.Meant.{IsVariable}
use Rattle.laws_programs.proofs.Effects.Units.{within_bounds, known_variable, Has, LetsAll}
use Rattle.laws_programs.proofs.Effects.Passing.{passing, out_or_lost}
use Rattle.laws_programs.proofs.Effects.Bounds.{LetsScalars}
use Rattle.laws_programs.proofs.Effects.Entered.{first_at, Keeps, Entered, keeps_first, scalars_first, scalar_offered, has_offered}
use Rattle.laws_programs.proofs.Effects.Calls.{Accepts}
use Rattle.laws_programs.specs.Effects.Tables.{is_dummy, DummiesLead}
use Rattle.call_graph.specs.Visible.{symbol_goes_out, is_visible_to_callers}

pub goes_out_key : (ss : List SymbolTree) (v w : Variable) → key v ≡ key w → is_visible_to_callers ss v ≡ is_visible_to_callers ss w
goes_out_key ss (Own m) (Own n) e = let z : m ≡ n = cc in ap (λ j. symbol_goes_out (symbol_at ss j)) z
goes_out_key ss (Own m) (Block c) e = cc
goes_out_key ss (Own m) (Saved t y) e = cc
goes_out_key ss (Block b) (Own n) e = cc
goes_out_key ss (Block b) (Block c) e = refl
goes_out_key ss (Block b) (Saved t y) e = refl
goes_out_key ss (Saved s x) (Own n) e = cc
goes_out_key ss (Saved s x) (Block c) e = refl
goes_out_key ss (Saved s x) (Saved t y) e = refl

own_entry : (x : List ℕ) → is_entry_of x (spot x 0) ≡ true
own_entry x = and_from (bytes_eq x x) (nat_eq 0 0) ((bytes_eq-Decides x x).1 refl) refl

module _ (ks : List Known) (g : Graph) (tables : List ℕ → Callees) (i : ℕ) (l : Known) (is : slice_get ks i ≡ Some l) where
  -- the effects of all statements of the module
  abbrev pub whole : EffectSet
  whole = with_list l.read.body (tables l.read.name) l.symbols no_effect

  abbrev pub in_bounds_of : List Variable
  in_bounds_of = with_symbols l.symbols l.symbols []

  abbrev pub Below : Allowed → Access → Type 0
  Below A = Under (passing ks g) (spot l.read.name 0) A

  abbrev pub KeepsOthers : Places → Type 0
  KeepsOthers at = (n : ℕ) (s : SymbolTree) → symbol_at l.symbols n ≡ Some s → is_dummy s.place ≡ false → at n ≡ fixed (numbering ks g) l n

  pub below : (at : Places) → KeepsOthers at → (P : Type 0) (v : Variable) (u : ℕ) (vs : List Variable) → Has ks g l at v u → Stands v vs → (Stands v (filter (is_visible_to_callers l.symbols) vs) → P) → P ⊎ passing ks g (spot l.read.name 0) u
  below at others P v u vs h s more = elim (out_or_lost ks g l at others v u h) [
    | inl out ↦ inl (more (in_filtered (is_visible_to_callers l.symbols) (goes_out_key l.symbols) v vs s out))
    | inr lost ↦ inr (i, l, is, own_entry l.read.name, lost)
  ]

  -- all statements, with what the summary allows at the same places
  pub lets_below : (at : Places) → KeepsOthers at → (A : Allowed) → LetsAll ks g l at A (summary_for tables l).value → LetsAll ks g l at (Below A) whole
  lets_below at others A lets = record {
    to_read = λ v u s h. below at others (A (Reading u)) v u (union whole.reads in_bounds_of) h (in_union v whole.reads in_bounds_of (inl s)) (λ z. lets.to_read v u z h);
    to_write = λ v u s h. below at others (A (Writing u)) v u whole.writes h s (λ z. lets.to_write v u z h);
    to_talk = lets.to_talk;
    to_stop = lets.to_stop;
  }

  -- ---- bounds

  module _ (ps : List Place) (lead : DummiesLead (length l.read.dummies) 1 l.symbols) where
    scalar_has : (at : Places) → Keeps ks g l ps at → (n : ℕ) (s : SymbolTree) → symbol_at l.symbols n ≡ Some s → IsVariable s.place → number_from 1 (symbol_names l.symbols) s.name ≡ Some n → has_bounds s.bounds ≡ false → Has ks g l at (Own n) (first_at ks g l ps n).first
    scalar_has at keeps n s e v f b =
        let reach = scalars_first ks g l ps lead n s e v b in
        let here : in_place (first_at ks g l ps n) (first_at ks g l ps n).first ≡ true = within_bounds (first_at ks g l ps n) (first_at ks g l ps n).first (omega arith) (omega (arith, reach)) in
        (s, e, known_variable l.symbols n s s.place v f, subst (λ p. in_place p (first_at ks g l ps n).first ≡ true) (sym (keeps.same n s e b)) here)

    -- scalars in bounds, where the summary allows their units
    bounds_below : (at : Places) → Keeps ks g l ps at → (A : Allowed) → ((n : ℕ) (s : SymbolTree) → Stands (Own n) (summary_for tables l).value.reads → symbol_at l.symbols n ≡ Some s → has_bounds s.bounds ≡ false → Has ks g l at (Own n) (first_at ks g l ps n).first → A (Reading (first_at ks g l ps n).first)) →
        LetsScalars l.symbols (first_at ks g l ps) (Below A) in_bounds_of
    bounds_below at keeps A lets n s stands e v f b =
        let h = scalar_has at keeps n s e v f b in
        below at keeps.others (A (Reading (first_at ks g l ps n).first)) (Own n) (first_at ks g l ps n).first (union whole.reads in_bounds_of) h (in_union (Own n) whole.reads in_bounds_of (inr stands)) (λ z. lets n s z e b h)

    pub bounds_at_places : (at : Places) → Keeps ks g l ps at → (A : Allowed) → LetsAll ks g l at A (summary_for tables l).value → LetsScalars l.symbols (first_at ks g l ps) (Below A) in_bounds_of
    bounds_at_places at keeps A lets = bounds_below at keeps A (λ n s z e b h. lets.to_read (Own n) (first_at ks g l ps n).first z h)

    pub bounds_offered : (A : Allowed) → Accepts ks g tables l ps A → LetsScalars l.symbols (first_at ks g l ps) (Below A) in_bounds_of
    bounds_offered A accepts =
        let keeps = keeps_first ks g l ps lead in
        bounds_below (first_at ks g l ps) keeps A (λ n s z e b h.
        accepts.lets.to_read (Own n) (first_at ks g l ps n).first z
        (h.0, h.1, h.2, scalar_offered ks g l ps lead accepts.scalars (first_at ks g l ps) keeps n s (first_at ks g l ps n).first e b h.3))

    -- all statements, with what the summary allows of what is offered
    pub offered_below : (at : Places) → Entered ks g l ps at → (A : Allowed) → Accepts ks g tables l ps A → LetsAll ks g l at (Below A) whole
    offered_below at entered A accepts =
        lets_below at entered.keeps.others A (record {
          to_read = λ v u s h. accepts.lets.to_read v u s (has_offered ks g l ps lead accepts.scalars at entered v u h);
          to_write = λ v u s h. accepts.lets.to_write v u s (has_offered ks g l ps lead accepts.scalars at entered v u h);
          to_talk = accepts.lets.to_talk;
          to_stop = accepts.lets.to_stop;
        })
