-- Blocks that show an outline: their lists reach over just the places of the GO TOs that are in them.
use Rattle.std.proofs.Common.{◌≡◌, ℕ, ◌+◌, ◌<◌, ◌≤◌, List, [], ◌∷◌, ◌++◌, length, arith}
use Rattle.f77_structure.specs.declared.open.Open.{Open}
use Rattle.f77_structure.specs.declared.open.Span.{Span}
use Rattle.f77_structure.specs.declared.blocks.Blocks.{Blocks}
use Rattle.f77_structure.specs.declared.blocks.Jump.{Jump}
pub use Rattle.f77_structure.proofs.Shown.{path_of, has, Within, span, AreOpen, ended-before, ended-behind, begun-before, begun-behind, new-list, ended-open, begun-open}
use Rattle.roundtrip_programs.proofs.ModuleTexts.Outlines.{Going, Outline}

-- the same GO TOs, before a place
abbrev pub AreKept : ℕ → List Span → List Jump → List Going → Type 0
AreKept n spans [] [] = Unit {0}
AreKept n spans [] (g ∷ gs) = ⊥
AreKept n spans (j ∷ js) [] = ⊥
AreKept n spans (j ∷ js) (g ∷ gs) = record { label : j.label ≡ g.label; before : j.place < n; within : Within spans j.place g.lists; others : AreKept n spans js gs }

-- at this place, with these open blocks: the GO TOs stand before n, and from m on the open lists are those that contain a place
pub record ShowsIn (os : List Open) (at n m : ℕ) (b : Blocks) (x : Outline) : Type 0 where
  pub place : b.place ≡ at
  pub within : path_of os ≡ x.within
  pub count : length b.spans ≡ x.count
  pub landings : b.landings ≡ x.landings
  pub jumps : AreKept n b.spans b.jumps x.goings
  pub stack : AreOpen b.spans os
  pub now : (q : ℕ) → m ≤ q → Within b.spans q (path_of os)

-- before the statement at a place
abbrev pub Before : ℕ → Blocks → Outline → Type 0
Before at b x = ShowsIn b.stack at at at b x

-- within it
abbrev pub Shows : ℕ → ℕ → Blocks → Outline → Type 0
Shows at n b x = ShowsIn b.stack at n (at + 1) b x

-- ---- the GO TOs

-- where the lists contain what they did at the places before n
pub kept-at : (n m : ℕ) (spans more : List Span) (js : List Jump) (gs : List Going) → n ≤ m → ((q : ℕ) (ks : List ℕ) → q < n → Within spans q ks → Within more q ks)
    → AreKept n spans js gs → AreKept m more js gs
kept-at n m spans more [] [] l h k = tt
kept-at n m spans more [] (g ∷ gs) l h k = absurd k
kept-at n m spans more (j ∷ js) [] l h k = absurd k
kept-at n m spans more (j ∷ js) (g ∷ gs) l h k =
    record { label = k.label; before = omega (arith, k.before); within = h j.place g.lists k.before k.within; others = kept-at n m spans more js gs l h k.others }

pub kept-more : (n : ℕ) (spans : List Span) (js : List Jump) (gs : List Going) (j : Jump) (g : Going) → AreKept n spans js gs → j.label ≡ g.label → j.place < n
    → Within spans j.place g.lists → AreKept n spans (js ++ j ∷ []) (gs ++ g ∷ [])
kept-more n spans [] [] j g k l b w = record { label = l; before = b; within = w; others = tt }
kept-more n spans [] (h ∷ gs) j g k l b w = absurd k
kept-more n spans (i ∷ js) [] j g k l b w = absurd k
kept-more n spans (i ∷ js) (h ∷ gs) j g k l b w =
    record { label = k.label; before = k.before; within = k.within; others = kept-more n spans js gs j g k.others l b w }
