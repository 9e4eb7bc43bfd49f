-- First accesses in events one after another.
use Rattle.std.proofs.Common.{◌≡◌, ◌⊎◌, inl, inr, ⊎_elim, ℕ, List, [], ◌∷◌, ◌++◌, Bool, true, false, ◌&&◌, ◌||◌, refl, sym, ap, ◌∙◌, true≢false, nat_eq}
use Rattle.std.specs.Prelude.{not}
use Rattle.std.specs.List.{list_any}
use Rattle.std.proofs.lemmas.Bool.{or_right, or_parts, or_from, and_parts}
use Rattle.f77_ast.specs.Runs.{Event, Arrived, Read, Wrote, Printed, Took}
use Rattle.call_graph.specs.declared.graph.Graph.{Graph}
use Rattle.f77_meaning.specs.Modules.{Known, all_lost}
use Rattle.f77_meaning.specs.Linked.{numbering}
use Rattle.f77_meaning.specs.Accesses.{is_read, is_written, is_read_first, is_entered}
use Rattle.preconditions.specs.transformer_algebra.Laws.{In, here, there}
use Rattle.laws_analyses.specs.Regions.Entries.{IsLost}
use Rattle.laws_analyses.specs.Regions.Shown.{is_lost}
use Rattle.laws_analyses.proofs.Regions.Traces.{entered_both, hidden_parts}
use Rattle.laws_marks.specs.InShown.{IsFirst}

-- a test that does not hold
pub not_so : (a : Bool) → (a ≡ true → ⊥) → a ≡ false
not_so true h = absurd (h refl)
not_so false h = refl

pub written_split : (u : ℕ) (a b : List Event) → is_written u (a ++ b) ≡ true → (is_written u a ≡ true) ⊎ (is_written u b ≡ true)
written_split u [] b h = inr h
written_split u (Arrived p ∷ es) b h = written_split u es b h
written_split u (Read v c ∷ es) b h = written_split u es b h
written_split u (Wrote v c ∷ es) b h = go (nat_eq v u) h (written_split u es b)
  where
    go : (x : Bool) → (x || is_written u (es ++ b)) ≡ true → (is_written u (es ++ b) ≡ true → (is_written u es ≡ true) ⊎ (is_written u b ≡ true)) → ((x || is_written u es) ≡ true) ⊎ (is_written u b ≡ true)
    go true h ih = inl refl
    go false h ih = ih h
written_split u (Printed xs ∷ es) b h = written_split u es b h
written_split u (Took o ∷ es) b h = written_split u es b h

pub written_left : (u : ℕ) (a b : List Event) → is_written u a ≡ true → is_written u (a ++ b) ≡ true
written_left u [] b h = absurd (true≢false (sym h))
written_left u (Arrived p ∷ es) b h = written_left u es b h
written_left u (Read v c ∷ es) b h = written_left u es b h
written_left u (Wrote v c ∷ es) b h = go (nat_eq v u) h (written_left u es b)
  where
    go : (x : Bool) → (x || is_written u es) ≡ true → (is_written u es ≡ true → is_written u (es ++ b) ≡ true) → (x || is_written u (es ++ b)) ≡ true
    go true h ih = refl
    go false h ih = ih h
written_left u (Printed xs ∷ es) b h = written_left u es b h
written_left u (Took o ∷ es) b h = written_left u es b h

pub written_right : (u : ℕ) (a b : List Event) → is_written u b ≡ true → is_written u (a ++ b) ≡ true
written_right u [] b h = h
written_right u (Arrived p ∷ es) b h = written_right u es b h
written_right u (Read v c ∷ es) b h = written_right u es b h
written_right u (Wrote v c ∷ es) b h = or_right (nat_eq v u) (is_written u (es ++ b)) (written_right u es b h)
written_right u (Printed xs ∷ es) b h = written_right u es b h
written_right u (Took o ∷ es) b h = written_right u es b h

-- written in neither
pub unwritten_both : (u : ℕ) (a b : List Event) → is_written u a ≡ false → is_written u b ≡ false → is_written u (a ++ b) ≡ false
unwritten_both u a b h g = not_so (is_written u (a ++ b)) (λ e. go (written_split u a b e))
  where
    go : (is_written u a ≡ true) ⊎ (is_written u b ≡ true) → ⊥
    go (inl e) = true≢false (sym e ∙ h)
    go (inr e) = true≢false (sym e ∙ g)

-- read first in both: in the first, or not written there and read first in the second
pub first_split : (u : ℕ) (a b : List Event) → is_read_first u (a ++ b) ≡ true → (is_read_first u a ≡ true) ⊎ ((is_written u a ≡ false) × (is_read_first u b ≡ true))
first_split u [] b h = inr (refl, h)
first_split u (Arrived p ∷ es) b h = first_split u es b h
first_split u (Read v c ∷ es) b h = go (nat_eq v u) h (first_split u es b)
  where
    go : (x : Bool) → (x || is_read_first u (es ++ b)) ≡ true → (is_read_first u (es ++ b) ≡ true → (is_read_first u es ≡ true) ⊎ ((is_written u es ≡ false) × (is_read_first u b ≡ true))) → ((x || is_read_first u es) ≡ true) ⊎ ((is_written u es ≡ false) × (is_read_first u b ≡ true))
    go true h ih = inl refl
    go false h ih = ih h
first_split u (Wrote v c ∷ es) b h = go (nat_eq v u) h (first_split u es b)
  where
    go : (x : Bool) → (not x && is_read_first u (es ++ b)) ≡ true → (is_read_first u (es ++ b) ≡ true → (is_read_first u es ≡ true) ⊎ ((is_written u es ≡ false) × (is_read_first u b ≡ true))) → ((not x && is_read_first u es) ≡ true) ⊎ (((x || is_written u es) ≡ false) × (is_read_first u b ≡ true))
    go true h ih = absurd (true≢false (sym h))
    go false h ih = ih h
first_split u (Printed xs ∷ es) b h = first_split u es b h
first_split u (Took o ∷ es) b h = first_split u es b h

pub first_left : (u : ℕ) (a b : List Event) → is_read_first u a ≡ true → is_read_first u (a ++ b) ≡ true
first_left u [] b h = absurd (true≢false (sym h))
first_left u (Arrived p ∷ es) b h = first_left u es b h
first_left u (Read v c ∷ es) b h = go (nat_eq v u) h (first_left u es b)
  where
    go : (x : Bool) → (x || is_read_first u es) ≡ true → (is_read_first u es ≡ true → is_read_first u (es ++ b) ≡ true) → (x || is_read_first u (es ++ b)) ≡ true
    go true h ih = refl
    go false h ih = ih h
first_left u (Wrote v c ∷ es) b h = go (nat_eq v u) h (first_left u es b)
  where
    go : (x : Bool) → (not x && is_read_first u es) ≡ true → (is_read_first u es ≡ true → is_read_first u (es ++ b) ≡ true) → (not x && is_read_first u (es ++ b)) ≡ true
    go true h ih = absurd (true≢false (sym h))
    go false h ih = ih h
first_left u (Printed xs ∷ es) b h = first_left u es b h
first_left u (Took o ∷ es) b h = first_left u es b h

pub first_right : (u : ℕ) (a b : List Event) → is_written u a ≡ false → is_read_first u b ≡ true → is_read_first u (a ++ b) ≡ true
first_right u [] b w h = h
first_right u (Arrived p ∷ es) b w h = first_right u es b w h
first_right u (Read v c ∷ es) b w h = or_right (nat_eq v u) (is_read_first u (es ++ b)) (first_right u es b w h)
first_right u (Wrote v c ∷ es) b w h = go (nat_eq v u) w (λ x. first_right u es b x h)
  where
    go : (x : Bool) → (x || is_written u es) ≡ false → (is_written u es ≡ false → is_read_first u (es ++ b) ≡ true) → (not x && is_read_first u (es ++ b)) ≡ true
    go true w ih = absurd (true≢false w)
    go false w ih = ih w
first_right u (Printed xs ∷ es) b w h = first_right u es b w h
first_right u (Took o ∷ es) b w h = first_right u es b w h

-- what is read first is read
pub first_is_read : (u : ℕ) (a : List Event) → is_read_first u a ≡ true → is_read u a ≡ true
first_is_read u [] h = h
first_is_read u (Arrived p ∷ es) h = first_is_read u es h
first_is_read u (Read v c ∷ es) h = go (nat_eq v u) h (first_is_read u es)
  where
    go : (x : Bool) → (x || is_read_first u es) ≡ true → (is_read_first u es ≡ true → is_read u es ≡ true) → (x || is_read u es) ≡ true
    go true h ih = refl
    go false h ih = ih h
first_is_read u (Wrote v c ∷ es) h = go (nat_eq v u) h (first_is_read u es)
  where
    go : (x : Bool) → (not x && is_read_first u es) ≡ true → (is_read_first u es ≡ true → is_read u es ≡ true) → is_read u es ≡ true
    go true h ih = absurd (true≢false (sym h))
    go false h ih = ih h
first_is_read u (Printed xs ∷ es) h = first_is_read u es h
first_is_read u (Took o ∷ es) h = first_is_read u es h

-- what is read where nothing is written before is read first
pub read_is_first : (u : ℕ) (a : List Event) → is_written u a ≡ false → is_read u a ≡ true → is_read_first u a ≡ true
read_is_first u [] w h = h
read_is_first u (Arrived p ∷ es) w h = read_is_first u es w h
read_is_first u (Read v c ∷ es) w h = go (nat_eq v u) h (read_is_first u es w)
  where
    go : (x : Bool) → (x || is_read u es) ≡ true → (is_read u es ≡ true → is_read_first u es ≡ true) → (x || is_read_first u es) ≡ true
    go true h ih = refl
    go false h ih = ih h
read_is_first u (Wrote v c ∷ es) w h = go (nat_eq v u) w (λ x. read_is_first u es x h)
  where
    go : (x : Bool) → (x || is_written u es) ≡ false → (is_written u es ≡ false → is_read_first u es ≡ true) → (not x && is_read_first u es) ≡ true
    go true w ih = absurd (true≢false w)
    go false w ih = ih w
read_is_first u (Printed xs ∷ es) w h = read_is_first u es w h
read_is_first u (Took o ∷ es) w h = read_is_first u es w h

-- ---- units that are lost, and hidden

off_both : (a b c : Bool) → (a && c) ≡ false → (b && c) ≡ false → ((a || b) && c) ≡ false
off_both true b c h g = h
off_both false b c h g = g

module _ (ks : List Known) (g : Graph) where
  abbrev has_lost : ℕ → Known → Bool
  has_lost u k = list_any (λ v. nat_eq v u) (all_lost (numbering ks g) k.read.name k.symbols k.symbols)

  none_of : (u : ℕ) (es : List Event) → ((m : List ℕ) → is_entered m es ≡ false) → (qs : List Known) → list_any (λ k. is_entered k.read.name es && list_any (λ v. nat_eq v u) (all_lost (numbering ks g) k.read.name k.symbols k.symbols)) qs ≡ false
  none_of u es h [] = refl
  none_of u es h (q ∷ qs) =
      let f : Known → Bool = λ k. is_entered k.read.name es && list_any (λ v. nat_eq v u) (all_lost (numbering ks g) k.read.name k.symbols k.symbols) in
      or_from (is_entered q.read.name es && has_lost u q) (list_any f qs) (ap (λ b. b && has_lost u q) (h q.read.name)) (none_of u es h qs)

  -- where no module is entered
  pub lost_none : (u : ℕ) (es : List Event) → ((m : List ℕ) → is_entered m es ≡ false) → is_lost ks g es u ≡ false
  lost_none u es h = none_of u es h ks

  neither_of : (u : ℕ) (a b : List Event) → (qs : List Known) → list_any (λ k. is_entered k.read.name a && list_any (λ v. nat_eq v u) (all_lost (numbering ks g) k.read.name k.symbols k.symbols)) qs ≡ false → list_any (λ k. is_entered k.read.name b && list_any (λ v. nat_eq v u) (all_lost (numbering ks g) k.read.name k.symbols k.symbols)) qs ≡ false → list_any (λ k. is_entered k.read.name (a ++ b) && list_any (λ v. nat_eq v u) (all_lost (numbering ks g) k.read.name k.symbols k.symbols)) qs ≡ false
  neither_of u a b [] h i = refl
  neither_of u a b (q ∷ qs) h i =
      let f : List Event → Known → Bool = λ es k. is_entered k.read.name es && list_any (λ v. nat_eq v u) (all_lost (numbering ks g) k.read.name k.symbols k.symbols) in
      let o = or_parts (is_entered q.read.name a && has_lost u q) (list_any (f a) qs) h in
      let p = or_parts (is_entered q.read.name b && has_lost u q) (list_any (f b) qs) i in
      or_from (is_entered q.read.name (a ++ b) && has_lost u q) (list_any (f (a ++ b)) qs)
      (ap (λ z. z && has_lost u q) (entered_both q.read.name a b) ∙ off_both (is_entered q.read.name a) (is_entered q.read.name b) (has_lost u q) o.0 p.0)
      (neither_of u a b qs o.1 p.1)

  pub lost_neither : (u : ℕ) (a b : List Event) → is_lost ks g a u ≡ false → is_lost ks g b u ≡ false → is_lost ks g (a ++ b) u ≡ false
  lost_neither u a b h i = neither_of u a b ks h i

  pub lost_split : (u : ℕ) (a b : List Event) → is_lost ks g (a ++ b) u ≡ true → (is_lost ks g a u ≡ true) ⊎ (is_lost ks g b u ≡ true)
  lost_split u a b h = go (is_lost ks g a u) refl (is_lost ks g b u) refl
    where
      go : (x : Bool) → is_lost ks g a u ≡ x → (y : Bool) → is_lost ks g b u ≡ y → (is_lost ks g a u ≡ true) ⊎ (is_lost ks g b u ≡ true)
      go true p y q = inl p
      go false p true q = inr q
      go false p false q = absurd (true≢false (sym h ∙ lost_neither u a b p q))

  known_of : (u : ℕ) (es : List Event) (qs : List Known) → ((q : Known) → In q qs → In q ks) → list_any (λ k. is_entered k.read.name es && list_any (λ v. nat_eq v u) (all_lost (numbering ks g) k.read.name k.symbols k.symbols)) qs ≡ true → (m : List ℕ) × IsLost ks g m u
  known_of u es [] f h = absurd (true≢false (sym h))
  known_of u es (q ∷ qs) f h = go (is_entered q.read.name es && has_lost u q) refl h (known_of u es qs (λ w i. f w (there i)))
    where
      go : (b : Bool) → (is_entered q.read.name es && has_lost u q) ≡ b → (b || list_any (λ k. is_entered k.read.name es && list_any (λ v. nat_eq v u) (all_lost (numbering ks g) k.read.name k.symbols k.symbols)) qs) ≡ true → (list_any (λ k. is_entered k.read.name es && list_any (λ v. nat_eq v u) (all_lost (numbering ks g) k.read.name k.symbols k.symbols)) qs ≡ true → (m : List ℕ) × IsLost ks g m u) → (m : List ℕ) × IsLost ks g m u
      go true p i ih = (q.read.name, record { known = q; is_one = f q here; named = refl; lost = (and_parts (is_entered q.read.name es) (has_lost u q) p).1 })
      go false p i ih = ih i

  -- a unit that is lost is one of some module
  pub lost_known : (u : ℕ) (es : List Event) → is_lost ks g es u ≡ true → (m : List ℕ) × IsLost ks g m u
  lost_known u es h = known_of u es ks (λ q i. i) h

  -- read first in both, and not hidden: so it is in the first, or in the second where it was not written before
  pub first_cases : (u : ℕ) (a b : List Event) → IsFirst ks g (a ++ b) u → IsFirst ks g a u ⊎ ((is_written u a ≡ false) × IsFirst ks g b u)
  first_cases u a b h =
      let q = hidden_parts ks g a b u h.seen in
      ⊎_elim (λ i. inl (record { is_so = i; seen = q.0 })) (λ i. inr (i.0, record { is_so = i.1; seen = q.1 })) (first_split u a b h.is_so)
