-- What statements do to an outline: the labels that they add stand in the open list or in lists that begin in them, and what stood stays.
use Rattle.std.proofs.Common.{◌≡◌, ◌⊎◌, inl, inr, ℕ, ◌+◌, ◌≤◌, ◌<◌, Bool, true, false, List, [], ◌∷◌, length, nat_eq, Some, None, Option, refl, sym, ap, ◌∙◌, arith, length-append}
use Rattle.std.specs.Prelude.{◌||◌}
use Rattle.std.proofs.lemmas.Bool.Decides.{nat_tests}
use Rattle.f77_ast.specs.Trees.{stmt, WhatTree, assign, block_if, logical_if, do_loop, call, goto, continue, return, stop, print, read, arm, ArmTrees, no_arms, more_arms, ElseTree, no_else, otherwise, LoopTree, loop, StmtTrees, no_stmts, more_stmts}
use Rattle.f77_structure.specs.declared.mark.Action.{Action}
use Rattle.f77_structure.specs.declared.mark.Action.TheVariants.{Goto, Return, Stop, Other}
use Rattle.f77_structure.specs.declared.blocks.Landing.{Landing}
use Rattle.f77_parser.specs.Roles.{action_of}
use Rattle.laws_programs.proofs.RoundtripPrograms.ModuleTexts.Outlines.{Going, Outline, innermost, outer, lands, goes, begins, leaves}
use Rattle.laws_programs.proofs.RoundtripPrograms.ModuleTexts.TreeOutlines.{outline_by, outline_body, outline_arms, outline_else, outline_in}
use Rattle.preconditions.specs.transformer_algebra.Cells.{has}
use Rattle.preconditions.specs.transformers.Jumps.{before_labels, labels}
use Rattle.laws_analyses.proofs.Members.{Member, member_more, member_split}
use Rattle.laws_analyses.proofs.Sizes.{one_going, goings_by, goings_body, goings_arms, goings_else, goings_in}

-- where a labelled statement stands: where it stood before, in the open list with such a label, or in a list that began since
pub data Came (o p : Outline) (P : ℕ → Type 0) (x : Landing) : Type 0 where
  before : Member x o.landings → Came o p P x
  own : x.list ≡ innermost o.within → P x.label → Came o p P x
  inner : o.count ≤ x.list → x.list < p.count → Came o p P x

-- from one outline to another: P holds of the labels that are added to the open list, and no more GO TOs are added than the size
pub record Step (o p : Outline) (P : ℕ → Type 0) (size : ℕ) : Type 0 where
  pub within : p.within ≡ o.within
  pub count : o.count ≤ p.count
  pub landings : (x : Landing) → Member x p.landings → Came o p P x
  pub goings : (g : Going) → Member g o.goings → Member g p.goings
  pub few : length p.goings ≤ length o.goings + size

abbrev pub Never : ℕ → Type 0
Never l = ⊥

abbrev pub Own : Option ℕ → ℕ → Type 0
Own label l = label ≡ Some l

abbrev pub InLabels : StmtTrees → ℕ → Type 0
InLabels t l = has (labels t) l ≡ true

-- ---- one after the other

pub resized : (o p : Outline) (P : ℕ → Type 0) (m n : ℕ) → m ≤ n → Step o p P m → Step o p P n
resized o p P m n h s = let few = s.few in record { within = s.within; count = s.count; landings = s.landings; goings = s.goings; few = omega (arith, few, h) }

pub step_then : (o p q : Outline) (P Q R : ℕ → Type 0) (m n : ℕ) → ((l : ℕ) → P l → R l) → ((l : ℕ) → Q l → R l) → Step o p P m → Step p q Q n → Step o q R (m + n)
step_then o p q P Q R m n f g s t = record {
  within = t.within ∙ s.within;
  count = grown;
  landings = λ x h. later x (t.landings x h);
  goings = λ x h. t.goings x (s.goings x h);
  few = fewer;
}
  where
    grown : o.count ≤ q.count
    grown = let a = s.count in let b = t.count in omega (arith, a, b)

    fewer : length q.goings ≤ length o.goings + (m + n)
    fewer = let a = s.few in let b = t.few in omega (arith, a, b)

    first : (x : Landing) → Came o p P x → Came o q R x
    first x (before h) = before h
    first x (own e h) = own e (f x.label h)
    first x (inner a b) = let c = t.count in inner a (omega (arith, b, c))

    later : (x : Landing) → Came p q Q x → Came o q R x
    later x (before h) = first x (s.landings x h)
    later x (own e h) = own (e ∙ ap innermost s.within) (g x.label h)
    later x (inner a b) = let c = s.count in inner (omega (arith, a, c)) b

pub same_step : (o : Outline) (P : ℕ → Type 0) → Step o o P 0
same_step o P = record { within = refl; count = omega arith; landings = λ x h. before h; goings = λ g h. h; few = omega arith }

-- ---- labels, GO TOs and lists

pub lands_step : (label : Option ℕ) (o : Outline) → Step o (lands label o) (Own label) 0
lands_step None o = same_step o (Own None)
lands_step (Some l) o = record {
  within = refl;
  count = omega arith;
  landings = λ x h. there x (member_split x (record { label = l; list = innermost o.within }) o.landings h);
  goings = λ g h. h;
  few = omega arith;
}
  where
    there : (x : Landing) → Member x o.landings ⊎ (x ≡ record { label = l; list = innermost o.within }) → Came o (lands (Some l) o) (Own (Some l)) x
    there x (inl h) = before h
    there x (inr e) = own (ap (λ (y : Landing). y.list) e) (ap (λ (y : Landing). Some y.label) (sym e))

pub goes_step : (a : Action) (o : Outline) → Step o (goes a o) Never (one_going a)
goes_step Return o = same_step o Never
goes_step Stop o = same_step o Never
goes_step Other o = same_step o Never
goes_step (Goto l) o = record {
  within = refl;
  count = omega arith;
  landings = λ x h. before h;
  goings = λ g h. member_more g new o.goings h;
  few = let e = length-append o.goings (new ∷ []) in omega (arith, e);
}
  where
    new : Going
    new = record { label = l; lists = o.within }

-- a list within these statements
pub list_step_in : (o p : Outline) (P : ℕ → Type 0) (n : ℕ) → Step (begins o) p P n → Step o (leaves p) Never n
list_step_in o p P n s = record {
  within = ap outer s.within;
  count = let a = s.count in omega (arith, a);
  landings = λ x h. there x (s.landings x h);
  goings = s.goings;
  few = s.few;
}
  where
    there : (x : Landing) → Came (begins o) p P x → Came o (leaves p) Never x
    there x (before h) = before h
    there x (own e h) = let a = s.count in inner (omega (arith, e)) (omega (arith, e, a))
    there x (inner a b) = inner (omega (arith, a)) b

-- ---- statements

in_first : (label : Option ℕ) (ls : List ℕ) (l : ℕ) → label ≡ Some l → has (before_labels label ls) l ≡ true
in_first None ls l e = cc
in_first (Some k) ls l e = let same : k ≡ l = cc in ap (λ b. b || has ls l) (same_number k l same)
  where
    same_number : (a b : ℕ) → a ≡ b → nat_eq a b ≡ true
    same_number a b q = grind (arith, nat_tests, q)

in_rest : (label : Option ℕ) (ls : List ℕ) (l : ℕ) → has ls l ≡ true → has (before_labels label ls) l ≡ true
in_rest None ls l e = e
in_rest (Some k) ls l e = go (nat_eq k l)
  where
    go : (b : Bool) → (b || has ls l) ≡ true
    go true = refl
    go false = e

mutual
  pub list_step : (t : StmtTrees) (o : Outline) → Step o (outline_in t o) (InLabels t) (goings_in t)
  list_step no_stmts o = same_step o (InLabels no_stmts)
  list_step (more_stmts (stmt id label w) others) o =
      let p = outline_by label w o in
      step_then o p (outline_in others p) (Own label) (InLabels others) (InLabels (more_stmts (stmt id label w) others)) (goings_by w) (goings_in others)
      (λ l h. in_first label (labels others) l h) (λ l h. in_rest label (labels others) l h) (what_step label w o) (list_step others p)

  pub what_step : (label : Option ℕ) (w : WhatTree) (o : Outline) → Step o (outline_by label w o) (Own label) (goings_by w)
  what_step label (assign v e) o = lands_step label o
  what_step label (block_if arms other) o =
      let p = lands label o in
      let q = outline_arms arms p in
      let r = outline_else other q in
      let n = goings_arms arms + goings_else other in
      resized o r (Own label) (0 + n) n (omega arith)
      (step_then o p r (Own label) Never (Own label) 0 n (λ l h. h) (λ l h. absurd h) (lands_step label o)
      (step_then p q r Never Never Never (goings_arms arms) (goings_else other) (λ l h. h) (λ l h. h) (arms_step arms p) (else_step other q)))
  what_step label (logical_if e (stmt inner_id own_label w)) o =
      let p = goes (action_of w) o in
      let n = one_going (action_of w) in
      resized o (lands label p) (Own label) (n + 0) n (omega arith)
      (step_then o p (lands label p) Never (Own label) (Own label) n 0 (λ l h. absurd h) (λ l h. h) (goes_step (action_of w) o) (lands_step label p))
  what_step label (do_loop l) o =
      let p = lands label o in
      let n = goings_body l in
      resized o (outline_body l p) (Own label) (0 + n) n (omega arith)
      (step_then o p (outline_body l p) (Own label) Never (Own label) 0 n (λ l h. h) (λ l h. absurd h) (lands_step label o) (body_step l p))
  what_step label (call n es) o = lands_step label o
  what_step label (goto l) o =
      let p = goes (Goto l) o in
      resized o (lands label p) (Own label) (1 + 0) 1 (omega arith)
      (step_then o p (lands label p) Never (Own label) (Own label) 1 0 (λ l h. absurd h) (λ l h. h) (goes_step (Goto l) o) (lands_step label p))
  what_step label continue o = lands_step label o
  what_step label return o = lands_step label o
  what_step label (stop t) o = lands_step label o
  what_step label (print es) o = lands_step label o
  what_step label (read es) o = lands_step label o

  pub body_step : (l : LoopTree) (o : Outline) → Step o (outline_body l o) Never (goings_body l)
  body_step (loop index first last step body) o = list_step_in o (outline_in body (begins o)) (InLabels body) (goings_in body) (list_step body (begins o))

  pub arms_step : (arms : ArmTrees) (o : Outline) → Step o (outline_arms arms o) Never (goings_arms arms)
  arms_step no_arms o = same_step o Never
  arms_step (more_arms (arm test body) others) o =
      let p = leaves (outline_in body (begins o)) in
      step_then o p (outline_arms others p) Never Never Never (goings_in body) (goings_arms others) (λ l h. h) (λ l h. h)
      (list_step_in o (outline_in body (begins o)) (InLabels body) (goings_in body) (list_step body (begins o))) (arms_step others p)

  pub else_step : (other : ElseTree) (o : Outline) → Step o (outline_else other o) Never (goings_else other)
  else_step no_else o = same_step o Never
  else_step (otherwise body) o = list_step_in o (outline_in body (begins o)) (InLabels body) (goings_in body) (list_step body (begins o))
