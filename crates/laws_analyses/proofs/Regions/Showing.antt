-- What sets of regions show of parts of a statement, put together.
use Rattle.std.proofs.Common.{◌≡◌, ℕ, List, [], ◌∷◌, ◌||◌, Bool, true, false, refl, sym, ◌∙◌, subst, true≢false, nat_eq}
use Rattle.f77_ast.specs.Store.{Content, Store}
use Rattle.f77_ast.specs.Steps.{Spot, Break, Shown as Text}
use Rattle.f77_ast.specs.Runs.{Event, Arrived, Printed, Took, Wrote, Answer, Gave, Broke}
use Rattle.f77_ast.specs.Plans.{Flow, Normal, Jump, Returned, Stopped}
use Rattle.std.specs.Prelude.{Option}
use Rattle.affine_forms.specs.Claims.{numbers_of}
use Rattle.in_out_regions.specs.region_sets.declared.region.Access.{Access}
use Rattle.in_out_regions.specs.region_sets.declared.region.Access.TheVariants.{Read, Write, In as AtIn, Out}
use Rattle.in_out_regions.specs.region_sets.declared.region.Region.{Region}
use Rattle.in_out_regions.specs.region_sets.Sets.{unite_all}
use Rattle.in_out_regions.specs.region_sets.Claims.{LiesInSet}
use Rattle.laws_analyses.specs.Regions.Settings.{Setting, scene, elements_at}
use Rattle.laws_analyses.specs.Regions.Shown.{accessed, Holds, Sharp, Finally, Shown}
use Rattle.laws_analyses.proofs.Regions.Traces.{hidden_parts}
use Rattle.laws_analyses.proofs.Regions.Holding.{holds_none, holds_gathered, sharp_none, sharp_gathered}
use Rattle.fx_lists.proofs.Numbers.{same_is as nat_same}

pub finally_more : (own : Bool) (a : Answer Flow) (P Q : Type 0) → (P → Q) → Finally own a P → Finally own a Q
finally_more own (Gave Normal) P Q f h = f h
finally_more own (Gave (Jump l)) P Q f h = tt
finally_more own (Gave Returned) P Q f h = λ e. f (h e)
finally_more own (Gave Stopped) P Q f h = tt
finally_more own (Broke b) P Q f h = tt

module _ (k : Setting) where
  pub shown_normal : (own : Bool) (rs : List Region) (s : Store) (es : List Event) → Holds k rs s es → Sharp k rs s es → Shown k own rs s (Gave Normal) es
  shown_normal own rs s es h g = record { holds = h; sharp = g }

  pub shown_broke : (own : Bool) (rs : List Region) (s : Store) (b : Break) (es : List Event) → Holds k rs s es → Shown k own rs s (Broke b) es
  shown_broke own rs s b es h = record { holds = h; sharp = tt }

  -- whatever the end is
  pub shown_all : (own : Bool) (rs : List Region) (s : Store) (a : Answer Flow) (es : List Event) → Holds k rs s es → Sharp k rs s es → Shown k own rs s a es
  shown_all own rs s a es h g = record { holds = h; sharp = go a }
    where
      go : (a : Answer Flow) → Finally own a (Sharp k rs s es)
      go (Gave Normal) = g
      go (Gave (Jump l)) = tt
      go (Gave Returned) = λ e. g
      go (Gave Stopped) = tt
      go (Broke b) = tt

  pub shown_more : (own : Bool) (rs qs : List Region) (s : Store) (a : Answer Flow) (es fs : List Event) → (Holds k rs s es → Holds k qs s fs) → (Sharp k rs s es → Sharp k qs s fs) → Shown k own rs s a es → Shown k own qs s a fs
  shown_more own rs qs s a es fs f g h = record { holds = f h.holds; sharp = finally_more own a (Sharp k rs s es) (Sharp k qs s fs) g h.sharp }

  pub shown_gathered : (own : Bool) (rs : List Region) (s : Store) (a : Answer Flow) (es : List Event) → Shown k own rs s a es → Shown k own (unite_all rs) s a es
  shown_gathered own rs s a es h = shown_more own rs (unite_all rs) s a es es (holds_gathered k rs s es) (sharp_gathered k rs s es) h

  -- nothing was done
  pub shown_idle : (own : Bool) (s : Store) (a : Answer Flow) → Shown k own [] s a []
  shown_idle own s a = shown_all own [] s a [] (holds_none k [] s) (sharp_none (scene k) (elements_at k) (numbers_of s) (λ a. accessed a []))

  -- ---- events that are no accesses

  abbrev pub IsQuiet : Event → Type 0
  IsQuiet e = (a : Access) (es : List Event) (u : ℕ) → accessed a (e ∷ es) u ≡ accessed a es u

  pub quiet_arrived : (p : Spot) → IsQuiet (Arrived p)
  quiet_arrived p Read es u = refl
  quiet_arrived p Write es u = refl
  quiet_arrived p AtIn es u = refl
  quiet_arrived p Out es u = refl

  pub quiet_printed : (xs : List Text) → IsQuiet (Printed xs)
  quiet_printed xs Read es u = refl
  quiet_printed xs Write es u = refl
  quiet_printed xs AtIn es u = refl
  quiet_printed xs Out es u = refl

  pub quiet_took : (o : Option Content) → IsQuiet (Took o)
  quiet_took o Read es u = refl
  quiet_took o Write es u = refl
  quiet_took o AtIn es u = refl
  quiet_took o Out es u = refl

  pub holds_after : (rs : List Region) (s : Store) (e : Event) (es : List Event) → IsQuiet e → Holds k rs s es → Holds k rs s (e ∷ es)
  holds_after rs s e es q h a u i = h a u (record { is_so = sym (q a es u) ∙ i.is_so; seen = (hidden_parts k.ks k.g (e ∷ []) es u i.seen).1 })

  pub sharp_after : (rs : List Region) (s : Store) (e : Event) (es : List Event) → IsQuiet e → Sharp k rs s es → Sharp k rs s (e ∷ es)
  sharp_after rs s e es q h r i x p st g = (let w = h r i x p st g in record { unit = w.unit; there = w.there; is_so = q r.kind es w.unit ∙ w.is_so })

  pub shown_after : (own : Bool) (rs : List Region) (s : Store) (a : Answer Flow) (e : Event) (es : List Event) → IsQuiet e → Shown k own rs s a es → Shown k own rs s a (e ∷ es)
  shown_after own rs s a e es q h = shown_more own rs rs s a es (e ∷ es) (holds_after rs s e es q) (sharp_after rs s e es q) h

  -- ---- a write

  pub one_write : (rs : List Region) (s : Store) (u : ℕ) (c : Content) → LiesInSet (scene k) (elements_at k) Write rs (numbers_of s) u → Holds k rs s (Wrote u c ∷ [])
  one_write rs s u c l Write x h = subst (λ z. LiesInSet (scene k) (elements_at k) Write rs (numbers_of s) z) (same (nat_eq u x) refl h.is_so) l
    where
      same : (b : Bool) → nat_eq u x ≡ b → (b || false) ≡ true → u ≡ x
      same true q i = nat_same u x q
      same false q i = absurd (true≢false (sym i))
  one_write rs s u c l Read x h = absurd (true≢false (sym h.is_so))
  one_write rs s u c l AtIn x h = absurd (true≢false (sym h.is_so))
  one_write rs s u c l Out x h = absurd (true≢false (sym h.is_so))
