-- Where statements stand among those of a module: whatever the module's labels and GO TOs are, a label that stands in a list around them is none that was left out.
use Rattle.std.proofs.Common.{◌≡◌, ◌⊎◌, inl, inr, ℕ, ◌+◌, ◌≤◌, ◌<◌, Bool, true, false, List, [], ◌∷◌, length, nat_eq, Some, None, Option, refl, sym, ap, ◌∙◌, subst, arith, true≢false}
use Rattle.std.specs.Prelude.{if◌then◌else◌, ◌||◌}
use Rattle.std.proofs.lemmas.Bool.Decides.{nat_tests}
use Rattle.std.proofs.lemmas.Bool.{or_from}
use Rattle.f77_ast.specs.Trees.{StmtTrees}
use Rattle.f77_structure.specs.declared.blocks.Landing.{Landing}
use Rattle.laws_programs.proofs.RoundtripPrograms.ModuleTexts.Outlines.{Going, Outline, innermost, outer, begins, leaves}
use Rattle.laws_programs.proofs.RoundtripPrograms.ModuleTexts.Shown as lists
use Rattle.preconditions.specs.transformer_algebra.Cells.{has, others}
use Rattle.preconditions.specs.transformers.Jumps.{labels}
use Rattle.laws_analyses.proofs.Members.{Member}
use Rattle.laws_analyses.proofs.Steps.{Came, before, own, inner, Step, InLabels}
use Rattle.fx_lists.proofs.Numbers.{nat_eq_same as is_same, same_is}
use Rattle.fx_lists.proofs.Booleans.{or_split}

-- a list is one of these
abbrev pub In : ℕ → List ℕ → Type 0
In k ks = lists.has k ks ≡ true

-- from one outline to the next, in a module with these labels and GO TOs; ms: labels that are asked for
pub record Inside (F : List Landing) (G : List Going) (o p : Outline) (ms : List ℕ) (size : ℕ) : Type 0 where
  pub later : (g : Going) → Member g p.goings → Member g G
  pub apart : (x : Landing) → Member x F → o.count ≤ x.list → x.list < p.count → Member x p.landings
  pub old : (x : Landing) → Member x o.landings → x.list < o.count
  pub path : (k : ℕ) → In k o.within → k < o.count
  pub some : In (innermost o.within) o.within
  pub few : length o.goings + size ≤ 4096
  pub covered : (x : Landing) → Member x F → In x.list o.within → has ms x.label ≡ false

-- ---- labels that are left out

-- none of those that are taken away
pub taken_away : (ms ns : List ℕ) (l : ℕ) → has ns l ≡ true → has (others ms ns) l ≡ false
taken_away [] ns l h = refl
taken_away (m ∷ ms) ns l h = go (has ns m) refl (nat_eq m l) refl (taken_away ms ns l h)
  where
    go : (b : Bool) → has ns m ≡ b → (c : Bool) → nat_eq m l ≡ c → has (others ms ns) l ≡ false → has (if b then others ms ns else m ∷ others ms ns) l ≡ false
    go true p c q ih = ih
    go false p true q ih = absurd (true≢false (sym h ∙ ap (has ns) (sym (same_is m l q)) ∙ p))
    go false p false q ih = or_from (nat_eq m l) (has (others ms ns) l) q ih

-- nor one that was not there
pub not_there : (ms ns : List ℕ) (l : ℕ) → has ms l ≡ false → has (others ms ns) l ≡ false
not_there [] ns l h = refl
not_there (m ∷ ms) ns l h = go (has ns m) (nat_eq m l) refl h (not_there ms ns l)
  where
    go : (b c : Bool) → nat_eq m l ≡ c → (c || has ms l) ≡ false → (has ms l ≡ false → has (others ms ns) l ≡ false) → has (if b then others ms ns else m ∷ others ms ns) l ≡ false
    go b true q k ih = cc
    go true false q k ih = ih k
    go false false q k ih = or_from (nat_eq m l) (has (others ms ns) l) q (ih k)

-- ---- parts of a way

module _ (F : List Landing) (G : List Going) (ms : List ℕ) where
  pub first_part : (o p q : Outline) (P Q : ℕ → Type 0) (a b n : ℕ) → n ≡ a + b → Inside F G o q ms n → Step o p P a → Step p q Q b → Inside F G o p ms a
  first_part o p q P Q a b n e i s t = record {
    later = λ g h. i.later g (t.goings g h);
    apart = λ x m h k. earlier x h k (t.landings x (i.apart x m h (grown x k)));
    old = i.old;
    path = i.path;
    some = i.some;
    few = let f = i.few in omega (arith, f, e);
    covered = i.covered;
  }
    where
      grown : (x : Landing) → x.list < p.count → x.list < q.count
      grown x k = let c = t.count in omega (arith, k, c)

      earlier : (x : Landing) → o.count ≤ x.list → x.list < p.count → Came p q Q x → Member x p.landings
      earlier x h k (before m) = m
      earlier x h k (own y z) =
          let low = i.path (innermost o.within) i.some in
          let same : x.list ≡ innermost o.within = y ∙ ap innermost s.within in
          absurd (omega (arith, h, low, same))
      earlier x h k (inner y z) = absurd (omega (arith, k, y))

  pub second_part : (o p q : Outline) (P Q : ℕ → Type 0) (a b n : ℕ) → n ≡ a + b → Inside F G o q ms n → Step o p P a → Step p q Q b → Inside F G p q ms b
  second_part o p q P Q a b n e i s t = record {
    later = i.later;
    apart = λ x m h k. i.apart x m (low x h) k;
    old = λ x m. older x (s.landings x m);
    path = λ k h. let c = s.count in let l = i.path k (subst (λ ks. In k ks) s.within h) in omega (arith, c, l);
    some = subst (λ ks. In (innermost ks) ks) (sym s.within) i.some;
    few = let f = i.few in let g = s.few in omega (arith, f, g, e);
    covered = λ x m h. i.covered x m (subst (λ ks. In x.list ks) s.within h);
  }
    where
      low : (x : Landing) → p.count ≤ x.list → o.count ≤ x.list
      low x h = let c = s.count in omega (arith, h, c)

      older : (x : Landing) → Came o p P x → x.list < p.count
      older x (before m) = let l = i.old x m in let c = s.count in omega (arith, l, c)
      older x (own y z) = let l = i.path (innermost o.within) i.some in let c = s.count in omega (arith, l, c, y)
      older x (inner y z) = z

  -- a list within
  pub list_part : (o p : Outline) (body : StmtTrees) (n : ℕ) → Inside F G o (leaves p) ms n → Step (begins o) p (InLabels body) n → Inside F G (begins o) p (others ms (labels body)) n
  list_part o p body n i s = record {
    later = i.later;
    apart = λ x m h k. i.apart x m (omega (arith, h)) k;
    old = λ x m. let l = i.old x m in omega (arith, l);
    path = λ k h. or_split (nat_eq o.count k) (lists.has k o.within) h (λ q. let e = same_is o.count k q in omega (arith, e)) (λ q. let l = i.path k q in omega (arith, l));
    some = ap (λ b. b || lists.has o.count o.within) (is_same o.count);
    few = i.few;
    covered = λ x m h. or_split (nat_eq o.count x.list) (lists.has x.list o.within) h
        (λ q. (let e = same_is o.count x.list q in let c = s.count in mine x e (s.landings x (i.apart x m (omega (arith, e)) (omega (arith, e, c))))))
        (λ q. not_there ms (labels body) x.label (i.covered x m q));
  }
    where
      mine : (x : Landing) → o.count ≡ x.list → Came (begins o) p (InLabels body) x → has (others ms (labels body)) x.label ≡ false
      mine x e (before m) = let l = i.old x m in absurd (omega (arith, l, e))
      mine x e (own y z) = taken_away ms (labels body) x.label z
      mine x e (inner y z) = absurd (omega (arith, y, e))
