-- From traces to claims: all that is visible and accessed is a unit of a variable that effects name.
use Rattle.std.proofs.Common.{◌≡◌, ◌⊎◌, inl, inr, ℕ, zero, suc, Bool, true, false, List, [], ◌∷◌, Some, refl, sym, ◌∙◌, subst, arith}
use Rattle.std.specs.Prelude.{not, ◌||◌, ◌&&◌, slice_get}
use Rattle.std.proofs.lemmas.Bool.{and_parts, and_from, not-true, or_left, or_right}
use Rattle.f77_ast.specs.Runs.{Event, Arrived, Read, Wrote, Printed, Took, Answer, Gave, Broke}
use Rattle.f77_ast.specs.Places.{Places}
use Rattle.f77_ast.specs.Plans.{Flow, Normal, Jump, Returned, Stopped, Plan, steps_of}
use Rattle.f77_ast.specs.Executions.{run_of}
use Rattle.f77_ast.specs.Statements.{spot}
use Rattle.f77_ast.specs.Calls.{in_place}
use Rattle.f77_ast.specs.declared.variable.Variable.{Variable}
use Rattle.f77_ast.specs.declared.variable.Variable.TheVariants.{Own, Block, Saved}
use Rattle.call_graph.specs.declared.graph.Graph.{Graph}
use Rattle.f77_ast.specs.declared.effect_set.EffectSet.{EffectSet}
use Rattle.f77_meaning.specs.Areas.{is_own_unit}
use Rattle.f77_meaning.specs.Modules.{Known}
use Rattle.f77_meaning.specs.Linked.{numbering}
use Rattle.f77_meaning.specs.Occurrences.{Occurrence, first_places}
use Rattle.f77_meaning.specs.Accesses.{is_entry_of, is_entered, is_passing, is_visible}
use Rattle.f77_meaning.specs.Claims.{place_of}
use Rattle.effects.specs.List.{Callees, at as result_at, at_list}
use Rattle.effects.specs.Modules.{cumulated_of}
use Rattle.laws_programs.specs.Effects.Claims.{is_stopped, is_unit_of_some, EffectsHold, IsOfModule}
use Rattle.laws_programs.proofs.Effects.Named.{Stands}
use Rattle.laws_programs.proofs.Effects.Members.{index_of}
use Rattle.laws_programs.proofs.Effects.Access.{Stopping, Allowed, Passing, Under, into_under}
use Rattle.laws_programs.proofs.Effects.Fine.{Always}
use Rattle.laws_programs.proofs.Effects.Traces.{along_more, fine_along, Lost, AnswerIn, Traced, traced}
use Rattle.laws_programs.proofs.Effects.Opens.{Opens, opens_along}
use Rattle.laws_programs.proofs.Effects.Units.{Has, Allows}
use Rattle.laws_programs.proofs.Effects.Plain.{IsPlain, ArePlain, same_variable, PlainEffect}
use Rattle.laws_programs.proofs.Effects.Passing.{has_lost, passing}
use Rattle.laws_programs.proofs.Effects.Statements.{ClaimsAt}
use Rattle.fx_lists.proofs.Lookups.{any_at}

-- ---- units that are not visible

-- the module that a trace enters
lost_with : (ks : List Known) (g : Graph) (es : List Event) (u : ℕ) → Lost (passing ks g) es u → (i : ℕ) × (k : Known) × (slice_get ks i ≡ Some k) × (is_entered k.read.name es ≡ true) × (has_lost ks g k u ≡ true)
lost_with ks g [] u h = absurd h
lost_with ks g (Arrived p ∷ es) u (inl h) = (h.0, h.1, h.2, or_left (is_entry_of h.1.read.name p) (is_entered h.1.read.name es) h.3, h.4)
lost_with ks g (Arrived p ∷ es) u (inr h) = let r = lost_with ks g es u h in (r.0, r.1, r.2, or_right (is_entry_of r.1.read.name p) (is_entered r.1.read.name es) r.3, r.4)
lost_with ks g (Read v c ∷ es) u h = lost_with ks g es u h
lost_with ks g (Wrote v c ∷ es) u h = lost_with ks g es u h
lost_with ks g (Printed xs ∷ es) u h = lost_with ks g es u h
lost_with ks g (Took o ∷ es) u h = lost_with ks g es u h

module _ (ks : List Known) (g : Graph) (x : Occurrence) (u : ℕ) where
  abbrev hides : Known → Bool
  hides k = (is_entry_of k.read.name x.spot || is_entered k.read.name x.ran.trace) && has_lost ks g k u

  passes : (i : ℕ) (k : Known) → slice_get ks i ≡ Some k → (is_entry_of k.read.name x.spot || is_entered k.read.name x.ran.trace) ≡ true → has_lost ks g k u ≡ true → is_passing ks g x u ≡ true
  passes i k e a h = any_at hides ks i k e (and_from (is_entry_of k.read.name x.spot || is_entered k.read.name x.ran.trace) (has_lost ks g k u) a h)

  by_spot : passing ks g x.spot u → is_passing ks g x u ≡ true
  by_spot h = passes h.0 h.1 h.2 (or_left (is_entry_of h.1.read.name x.spot) (is_entered h.1.read.name x.ran.trace) h.3) h.4

  by_trace : Lost (passing ks g) x.ran.trace u → is_passing ks g x u ≡ true
  by_trace h = let r = lost_with ks g x.ran.trace u h in passes r.0 r.1 r.2 (or_right (is_entry_of r.1.read.name x.spot) (is_entered r.1.read.name x.ran.trace) r.3) r.4

  seen : is_visible ks g x u ≡ true → (is_own_unit (numbering ks g) u ≡ false) × (is_passing ks g x u ≡ false)
  seen v =
      let p = and_parts (not (is_own_unit (numbering ks g) u)) (not (is_passing ks g x u)) v in
      (not-true (is_own_unit (numbering ks g) u) p.0, not-true (is_passing ks g x u) p.1)

  -- what is left is a unit of a variable
  pub visible_access : (A : Type 0) → is_visible ks g x u ≡ true → (((is_own_unit (numbering ks g) u ≡ true) ⊎ A) ⊎ passing ks g x.spot u) ⊎ Lost (passing ks g) x.ran.trace u → A
  visible_access A v (inl (inl (inl own))) = let z : true ≡ false = sym own ∙ (seen v).0 in cc
  visible_access A v (inl (inl (inr a))) = a
  visible_access A v (inl (inr p)) = let z : true ≡ false = sym (by_spot p) ∙ (seen v).1 in cc
  visible_access A v (inr l) = let z : true ≡ false = sym (by_trace l) ∙ (seen v).1 in cc

-- ---- units of variables

has_place : (ks : List Known) (g : Graph) (k : Known) (at : Places) (v : Variable) (u : ℕ) → Has ks g k at v u → IsPlain v × (in_place (place_of ks g at v) u ≡ true)
has_place ks g k at (Own n) u h = (tt, h.3)
has_place ks g k at (Block b) u h = (tt, h)
has_place ks g k at (Saved m x) u h = (h.0, h.1)

among : (ks : List Known) (g : Graph) (k : Known) (at : Places) (v : Variable) (u : ℕ) (vs : List Variable) → ArePlain vs → Stands v vs → Has ks g k at v u → is_unit_of_some ks g at vs u ≡ true
among ks g k at v u [] p s h = absurd s
among ks g k at v u (w ∷ vs) p (inl e) h =
    let q = has_place ks g k at v u h in
    let same = same_variable w v p.0 q.0 e in
    or_left (in_place (place_of ks g at w) u) (is_unit_of_some ks g at vs u) (subst (λ y. in_place (place_of ks g at y) u ≡ true) (sym same) q.1)
among ks g k at v u (w ∷ vs) p (inr s) h = or_right (in_place (place_of ks g at w) u) (is_unit_of_some ks g at vs u) (among ks g k at v u vs p.1 s h)

stopped : (L : Passing) (A : Allowed) (a : Answer Flow) → AnswerIn A a → is_stopped a ≡ true → A Stopping
stopped L A (Gave Normal) h e = cc
stopped L A (Gave (Jump l)) h e = cc
stopped L A (Gave Returned) h e = cc
stopped L A (Gave Stopped) h e = h
stopped L A (Broke b) h e = cc

pub held : (ks : List Known) (g : Graph) (k : Known) (e : EffectSet) (x : Occurrence) → PlainEffect e → Traced (passing ks g) (Under (passing ks g) x.spot (Allows ks g k x.places e)) x.ran → EffectsHold ks g e x
held ks g k e x p t = record {
  all_read = λ u r v. let a = visible_access ks g x u ((w : Variable) × Stands w e.reads × Has ks g k x.places w u) v (t.reads u r) in among ks g k x.places a.0 u e.reads p.reads a.1 a.2;
  all_written = λ u r v. let a = visible_access ks g x u ((w : Variable) × Stands w e.writes × Has ks g k x.places w u) v (t.writes u r) in among ks g k x.places a.0 u e.writes p.writes a.1 a.2;
  io = t.talks;
  stops = stopped (passing ks g) (Under (passing ks g) x.spot (Allows ks g k x.places e)) x.ran.answer t.ends;
}

-- ---- the claim of executions of statements, and of entries

module _ (ks : List Known) (g : Graph) (tables : List ℕ → Callees) (i : ℕ) (l : Known) (is : slice_get ks i ≡ Some l) where
  abbrev claim : Occurrence → Type 0
  claim x = IsOfModule ks g tables x

  pub statement_claims : (at : Places) → ClaimsAt ks g l (passing ks g) claim at (at_list l.read.body (tables l.read.name) l.symbols)
  statement_claims at zero e t low mem plain fine = absurd (omega (arith, low))
  statement_claims at (suc n) e t low mem plain fine = λ s j later. record {
    index = i;
    by = l;
    is_module = is;
    is_named = refl;
    effect = e;
    is_given = index_of (result_at (suc n) e) (at_list l.read.body (tables l.read.name) l.symbols) mem;
    holds = held ks g l e (record { spot = spot l.read.name (suc n); places = at; start = s; ran = run_of t s j; later = later }) plain
        (traced (passing ks g) (steps_of t) (Under (passing ks g) (spot l.read.name (suc n)) (Allows ks g l at e)) s j
        (along_more (passing ks g) (steps_of t) (Allows ks g l at e) (Under (passing ks g) (spot l.read.name (suc n)) (Allows ks g l at e)) (into_under (passing ks g) (spot l.read.name (suc n)) (Allows ks g l at e)) s j
        (fine_along (passing ks g) claim t (Allows ks g l at e) fine s j)));
  }

  pub entry_claim : (P : Places → Type 0) (at : Places) (t : Plan) → let e = (cumulated_of l.read.body (tables l.read.name) l.symbols).summary in PlainEffect e →
      Opens t (passing ks g) claim P (λ q. Under (passing ks g) (spot l.read.name 0) (Allows ks g l q e)) at → Always claim (spot l.read.name 0) at t
  entry_claim P at t plain opens = λ s j later.
      let e = (cumulated_of l.read.body (tables l.read.name) l.symbols).summary in
      let A : Places → Allowed = λ q. Under (passing ks g) (spot l.read.name 0) (Allows ks g l q e) in
      record {
        index = i;
        by = l;
        is_module = is;
        is_named = refl;
        effect = e;
        is_given = refl;
        holds = held ks g l e (record { spot = spot l.read.name 0; places = first_places t s j at; start = s; ran = run_of t s j; later = later }) plain
            (traced (passing ks g) (steps_of t) (A (first_places t s j at)) s j (opens_along (passing ks g) claim P A at t opens s j).1);
      }
