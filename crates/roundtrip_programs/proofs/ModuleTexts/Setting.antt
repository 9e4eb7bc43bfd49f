-- What is written of blocks, one in another, leaves no block open and meets no fault of blocks.
use Rattle.std.proofs.Common.{◌≡◌, ℕ, suc, ◌+◌, Bool, true, false, List, [], ◌∷◌, ◌++◌, length, refl, sym, ap, ◌∙◌, subst}
use Rattle.std.specs.Prelude.{Option, None}
use Rattle.f77_ast.specs.declared.places.Part.TheVariants as parts
use Rattle.f77_ast.specs.Trees.{ExprTree, StmtTree, stmt, WhatTree, assign, do_loop, call, goto, continue, return, stop, print, read, arm, ArmTrees, no_arms, more_arms, ElseTree, no_else, otherwise, loop, StmtTrees, no_stmts, more_stmts}
use Rattle.f77_ast.specs.Trees as trees
use Rattle.f77_statements.specs.Phrases.{block_if, else_if, else_part, while_head, end_do, end_if}
use Rattle.f77_structure.specs.declared.mark.Role.TheVariants as roles
use Rattle.fx_lists.specs.declared.refusal.Refusal.{Refusal}
use Rattle.f77_structure.specs.declared.open.Kind.{Kind}
use Rattle.f77_structure.specs.declared.open.Kind.TheVariants as kinds
use Rattle.f77_structure.specs.declared.open.Open.{Open}
use Rattle.f77_structure.specs.declared.blocks.Blocks.{Blocks}
use Rattle.f77_structure.specs.Opens.{ends_at}
use Rattle.f77_structure.specs.Steps.{parse_statement}
use Rattle.roundtrip_programs.specs.ModuleTexts.Cards.{Card, card, head_of, cards_of, cards_by, part_cards, else_cards, cards_in}
use Rattle.roundtrip_programs.specs.ModuleTexts.Folded.{WhileFits, WhileFitsBy, WhilesFitArms, WhilesFitElse, WhilesFit}
use Rattle.roundtrip_programs.specs.ModuleTexts.Shallow.{IsShallow, ShallowBelow, ShallowArms, ShallowElse, AreShallow}
use Rattle.roundtrip_programs.proofs.ModuleTexts.TreeBack.{if_cards, if-cards}
use Rattle.roundtrip_programs.proofs.ModuleTexts.Stepping.{mark_at, all_set, Unlabelled, Stays, Within, Around, unlabelled-at, simply-set, within-set, enters, close-do, close-if, close-else, next-if, next-else}

-- what holds behind these and those, wherever those stand
pub set-append : (P : Blocks → Type 0) (f : ℕ → ℕ) (place : ℕ) (xs ys : List Card) (b : Blocks) → ((q : ℕ) → P (all_set f q ys (all_set f place xs b))) → P (all_set f place (xs ++ ys) b)
set-append P f place [] ys b h = h place
set-append P f place (x ∷ xs) ys b h = set-append P f (place + 1) xs ys (parse_statement place (mark_at f place x) b) h

-- no label ends a block of this kind
abbrev IsPlain : Kind → Type 0
IsPlain k = (l : ℕ) → ends_at l k ≡ false

top-unlabelled : (k : Kind) (os : List Open) (found : Option Refusal) (c : Blocks) → IsPlain k → Within k os found c → Unlabelled c.stack
top-unlabelled k os found c p w = unlabelled-at (w.top ∷ os) c.stack (sym w.stack) (λ l. ap (ends_at l) w.kind ∙ p l)

shallow-at : (x y : List Open) (body : StmtTrees) → x ≡ y → AreShallow (length x) body → AreShallow (length y) body
shallow-at x y body e h = let P : List Open → Type 0 = λ s. AreShallow (length s) body in subst P e h

moved : (k : Kind) (os : List Open) (found : Option Refusal) (c d : Blocks) → Within k os found c → Stays c d → Within k os found d
moved k os found c d w s = record { top = w.top; kind = w.kind; stack = s.stack ∙ w.stack; same = s.found ∙ w.same }

-- a block IF, or a DO WHILE: what is in its first part, and its other parts with what ends it
block_set : (f : ℕ → ℕ) (tells : ℕ → Bool) (place : ℕ) (c : Bool) (id : ℕ) (label : Option ℕ) (test : ExprTree) (body : StmtTrees) (others : ArmTrees) (other : ElseTree) (b : Blocks)
    → Unlabelled b.stack → ShallowBelow (length b.stack) (trees.block_if (more_arms (arm test body) others) other) → WhileFitsBy tells c (trees.block_if (more_arms (arm test body) others) other)
    → ((q : ℕ) (d : Blocks) → Unlabelled d.stack → AreShallow (length d.stack) body → Stays d (all_set f q (cards_in tells body) d))
    → ((q : ℕ) (d : Blocks) → Within kinds.If b.stack b.found d → Around b.stack b.found (all_set f q (part_cards tells id 1 others (else_cards tells id other ++ card (parts.Close id) None end_if ∷ [])) d))
    → Stays b (all_set f place (if_cards tells c id label test body others other) b)
unfolding parse_statement
block_set f tells place false id label test body others other b u h t inner rest =
    let c = parse_statement place (mark_at f place (card (parts.Stmt id) label (block_if test))) b in
    let w = enters kinds.If roles.BlockIf label (f place) place b refl u h.room in
    let end = else_cards tells id other ++ card (parts.Close id) None end_if ∷ [] in
    let a = set-append (Around b.stack b.found) f (place + 1) (cards_in tells body) (part_cards tells id 1 others end) c (λ q.
    rest q (all_set f (place + 1) (cards_in tells body) c)
    (moved kinds.If b.stack b.found c (all_set f (place + 1) (cards_in tells body) c) w
    (inner (place + 1) c (top-unlabelled kinds.If b.stack b.found c (λ l. refl) w) (shallow-at (w.top ∷ b.stack) c.stack body (sym w.stack) h.parts.below)))) in
    record { stack = a.stack; found = a.same }
block_set f tells place true id label test body no_arms no_else b u h t inner rest =
    let k = kinds.Do None in
    let c = parse_statement place (mark_at f place (card (parts.Stmt id) label (while_head None test))) b in
    let w = enters k (roles.Do None) label (f place) place b refl u h.room in
    let a = set-append (Around b.stack b.found) f (place + 1) (cards_in tells body) (card (parts.Close id) None end_do ∷ []) c (λ q.
    close-do f q id b.stack b.found (all_set f (place + 1) (cards_in tells body) c)
    (moved k b.stack b.found c (all_set f (place + 1) (cards_in tells body) c) w
    (inner (place + 1) c (top-unlabelled k b.stack b.found c (λ l. refl) w) (shallow-at (w.top ∷ b.stack) c.stack body (sym w.stack) h.parts.below)))) in
    record { stack = a.stack; found = a.same }
block_set f tells place true id label test body no_arms (otherwise list) b u h t inner rest = absurd (t.alone refl)
block_set f tells place true id label test body (more_arms x xs) other b u h t inner rest = absurd (t.alone refl)

mutual
  unfolding parse_statement

  stmt_set : (f : ℕ → ℕ) (tells : ℕ → Bool) (place : ℕ) (s : StmtTree) (b : Blocks) → Unlabelled b.stack → IsShallow (length b.stack) s → WhileFits tells s → Stays b (all_set f place (cards_of tells s) b)
  stmt_set f tells place (stmt id label w) b u h t = what_set f tells place id label w b u h t

  what_set : (f : ℕ → ℕ) (tells : ℕ → Bool) (place id : ℕ) (label : Option ℕ) (w : WhatTree) (b : Blocks) → Unlabelled b.stack → ShallowBelow (length b.stack) w → WhileFitsBy tells (tells id) w → Stays b (all_set f place (cards_by tells id label w) b)
  what_set f tells place id label (assign v e) b u h w = simply-set f place (parts.Stmt id) label (assign v e) b u
  what_set f tells place id label (trees.block_if no_arms other) b u h w = record { stack = refl; found = refl }
  what_set f tells place id label (trees.block_if (more_arms (arm test body) others) other) b u h t =
      let P : List Card → Type 0 = λ cs. Stays b (all_set f place cs b) in
      let end = else_cards tells id other ++ card (parts.Close id) None end_if ∷ [] in
      subst P (sym (if-cards tells (tells id) id label test body others other refl))
      (block_set f tells place (tells id) id label test body others other b u h t
      (λ q d v i. list_set f tells q body d v i t.parts.below)
      (λ q d v. parts_set f tells q id 1 others end b.stack b.found d v h.parts.parts t.parts.parts (λ r e g. else_set f tells r id other b.stack b.found e g h.last t.last)))
  what_set f tells place id label (trees.logical_if e s) b u h w = within-set f place id label e s b u
  what_set f tells place id label (do_loop (loop index first last step body)) b u h t =
      let k = kinds.Do None in
      let c = parse_statement place (mark_at f place (card (parts.Stmt id) label (head_of (loop index first last step body)))) b in
      let v = enters k (roles.Do None) label (f place) place b refl u h.room in
      let a = set-append (Around b.stack b.found) f (place + 1) (cards_in tells body) (card (parts.Close id) None end_do ∷ []) c (λ q.
      close-do f q id b.stack b.found (all_set f (place + 1) (cards_in tells body) c)
      (moved k b.stack b.found c (all_set f (place + 1) (cards_in tells body) c) v
      (list_set f tells (place + 1) body c (top-unlabelled k b.stack b.found c (λ l. refl) v) (shallow-at (v.top ∷ b.stack) c.stack body (sym v.stack) h.below) t))) in
      record { stack = a.stack; found = a.same }
  what_set f tells place id label (call n es) b u h w = simply-set f place (parts.Stmt id) label (call n es) b u
  what_set f tells place id label (goto t) b u h w = simply-set f place (parts.Stmt id) label (goto t) b u
  what_set f tells place id label continue b u h w = simply-set f place (parts.Stmt id) label continue b u
  what_set f tells place id label return b u h w = simply-set f place (parts.Stmt id) label return b u
  what_set f tells place id label (stop t) b u h w = simply-set f place (parts.Stmt id) label (stop t) b u
  what_set f tells place id label (print es) b u h w = simply-set f place (parts.Stmt id) label (print es) b u
  what_set f tells place id label (read es) b u h w = simply-set f place (parts.Stmt id) label (read es) b u

  -- the other parts of a block IF, where this ends it
  parts_set : (f : ℕ → ℕ) (tells : ℕ → Bool) (place id at : ℕ) (others : ArmTrees) (end : List Card) (os : List Open) (found : Option Refusal) (c : Blocks) → Within kinds.If os found c
      → ShallowArms (suc (length os)) others → WhilesFitArms tells others → ((r : ℕ) (d : Blocks) → Within kinds.If os found d → Around os found (all_set f r end d))
      → Around os found (all_set f place (part_cards tells id at others end) c)
  parts_set f tells place id at no_arms end os found c w h t e = e place c w
  parts_set f tells place id at (more_arms (arm u body) others) end os found c w h t e =
      let d = parse_statement place (mark_at f place (card (parts.ElseIf id at) None (else_if u))) c in
      let v = next-if f place (parts.ElseIf id at) u os found c w in
      set-append (Around os found) f (place + 1) (cards_in tells body) (part_cards tells id (at + 1) others end) d (λ q.
      parts_set f tells q id (at + 1) others end os found (all_set f (place + 1) (cards_in tells body) d)
      (moved kinds.If os found d (all_set f (place + 1) (cards_in tells body) d) v
      (list_set f tells (place + 1) body d (top-unlabelled kinds.If os found d (λ l. refl) v) (shallow-at (v.top ∷ os) d.stack body (sym v.stack) h.below) t.below))
      h.parts t.parts e)

  else_set : (f : ℕ → ℕ) (tells : ℕ → Bool) (place id : ℕ) (other : ElseTree) (os : List Open) (found : Option Refusal) (c : Blocks) → Within kinds.If os found c
      → ShallowElse (suc (length os)) other → WhilesFitElse tells other → Around os found (all_set f place (else_cards tells id other ++ card (parts.Close id) None end_if ∷ []) c)
  else_set f tells place id no_else os found c w h t = close-if f place id os found c w
  else_set f tells place id (otherwise body) os found c w h t =
      let d = parse_statement place (mark_at f place (card (parts.Else id) None else_part)) c in
      let v = next-else f place (parts.Else id) os found c w in
      set-append (Around os found) f (place + 1) (cards_in tells body) (card (parts.Close id) None end_if ∷ []) d (λ q.
      close-else f q id os found (all_set f (place + 1) (cards_in tells body) d)
      (moved kinds.Else os found d (all_set f (place + 1) (cards_in tells body) d) v
      (list_set f tells (place + 1) body d (top-unlabelled kinds.Else os found d (λ l. refl) v) (shallow-at (v.top ∷ os) d.stack body (sym v.stack) h) t)))

  pub list_set : (f : ℕ → ℕ) (tells : ℕ → Bool) (place : ℕ) (body : StmtTrees) (b : Blocks) → Unlabelled b.stack → AreShallow (length b.stack) body → WhilesFit tells body → Stays b (all_set f place (cards_in tells body) b)
  list_set f tells place no_stmts b u h t = record { stack = refl; found = refl }
  list_set f tells place (more_stmts s others) b u h w =
      let c = all_set f place (cards_of tells s) b in
      let t = stmt_set f tells place s b u h.first w.first in
      set-append (Stays b) f place (cards_of tells s) (cards_in tells others) b (λ q.
      let r = list_set f tells q others c (unlabelled-at b.stack c.stack (sym t.stack) u) (shallow-at b.stack c.stack others (sym t.stack) h.behind) w.behind in
      record { stack = r.stack ∙ t.stack; found = r.found ∙ t.found })
