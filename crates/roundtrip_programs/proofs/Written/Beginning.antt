-- What a module begins with stays, whatever statements follow.
use Rattle.std.proofs.Common.{◌≡◌, ℕ, ◌+◌, ◌≤◌, Bool, true, false, List, [], ◌∷◌, ◌++◌, refl, sym, ap, ◌∙◌, arith, append-nil, if◌then◌else◌}
use Rattle.std.specs.Prelude.{Option, Some, None, not, ◌||◌, nat_lt}
use Rattle.std.proofs.lemmas.Bool.Decides.{nat_tests}
use Rattle.f77_ast.specs.declared.places.Part.{Part}
use Rattle.f77_ast.specs.declared.places.Part.TheVariants as parts
use Rattle.f77_ast.specs.declared.places.Spot.{Spot}
use Rattle.f77_ast.specs.Trees.{ExprTree, StmtTree, stmt, WhatTree, continue}
use Rattle.f77_ast.specs.DeclTrees.{DeclTree}
use Rattle.f77_statements.specs.Phrases.{PhraseTree, program, subroutine, function, specification, simple, logical_if, block_if, else_if, else_part, end_if, do_head, while_head, end_do, end_module}
use Rattle.f77_structure.specs.declared.mark.Mark.{Mark}
use Rattle.f77_structure.specs.declared.order.Order.{Order}
use Rattle.f77_structure.specs.Marks.{statements_in, label_in}
use Rattle.f77_structure.specs.Order.{is_out_of_order, keep_label, counted, check_next, all_ordered}
use Rattle.f77_parser.specs.declared.progress.Heading.{Heading}
use Rattle.f77_parser.specs.Roles.{role_of}
use Rattle.f77_parser.specs.Statements.{StatementTree, mark_of, marks_of}
use Rattle.f77_parser.specs.SoFar.{OpeningTree, opening_loop, opening_while, branches, AroundTree, SoFar, spot, add_spot, add_executable, add_logical_if, open_block, add_while, what_of, leave_block, is_loop_to, leave_loops, end_loops_at, close_innermost, close_block}
use Rattle.f77_parser.specs.Ends.{decls_by}
use Rattle.f77_parser.specs.Building.{add_specification, divide_innermost, add_continue, add_phrase, add_statement, add_all}
use Rattle.fx_lists.proofs.Refused.{none_refused}

-- ---- the first executable statement

-- its number, where these blocks are open and this is the open list
abbrev pub outermost : List AroundTree → List StmtTree → Option ℕ
outermost [] [] = None
outermost [] (stmt id label w ∷ l) = Some id
outermost (a ∷ os) l = outermost os (a.before ++ stmt a.id a.label continue ∷ [])

abbrev pub Opens : ℕ → List AroundTree → List StmtTree → Type 0
Opens n os l = outermost os l ≡ Some n

opens-more : (n : ℕ) (os : List AroundTree) (l : List StmtTree) (s : StmtTree) → Opens n os l → Opens n os (l ++ s ∷ [])
opens-more n [] [] s h = cc
opens-more n [] (stmt id label w ∷ l) s h = h
opens-more n (a ∷ os) l s h = h

-- what the last statement does is all the same
opens-same : (n : ℕ) (os : List AroundTree) (l : List StmtTree) (id : ℕ) (label : Option ℕ) (w : WhatTree) → Opens n os (l ++ stmt id label continue ∷ []) → Opens n os (l ++ stmt id label w ∷ [])
opens-same n [] [] id label w h = h
opens-same n [] (stmt i k v ∷ l) id label w h = h
opens-same n (a ∷ os) l id label w h = h

-- ---- the first spot

abbrev pub first_spot : List Spot → Option Spot
first_spot [] = None
first_spot (s ∷ ss) = Some s

abbrev pub Leads : Spot → List Spot → Type 0
Leads x ss = first_spot ss ≡ Some x

leads-more : (x : Spot) (ss : List Spot) (y : Spot) → Leads x ss → Leads x (ss ++ y ∷ [])
leads-more x [] y h = cc
leads-more x (s ∷ ss) y h = h

-- ---- executable statements keep what stands before them

record Keeps (p q : SoFar) : Type 0 where
  heading : q.heading ≡ p.heading
  decls : q.decls ≡ p.decls
  opens : (n : ℕ) → Opens n p.around p.list → Opens n q.around q.list
  leads : (x : Spot) → Leads x p.spots → Leads x q.spots

kept : (p : SoFar) → Keeps p p
kept p = record { heading = refl; decls = refl; opens = λ n h. h; leads = λ x h. h }

chained : (p q r : SoFar) → Keeps p q → Keeps q r → Keeps p r
chained p q r g h = record {
  heading = h.heading ∙ g.heading;
  decls = h.decls ∙ g.decls;
  opens = λ n o. h.opens n (g.opens n o);
  leads = λ x o. h.leads x (g.leads x o);
}

either-keeps : (b : Bool) (p x y : SoFar) → Keeps p x → Keeps p y → Keeps p (if b then x else y)
either-keeps true p x y h g = h
either-keeps false p x y h g = g

spot-keeps : (part : Part) (f : ℕ) (cs : List (List ℕ)) (p : SoFar) → Keeps p (add_spot part f cs p)
unfolding add_spot
spot-keeps part f cs p = record { heading = refl; decls = refl; opens = λ n h. h; leads = λ x h. leads-more x p.spots (spot part f cs) h }

left-keeps : (a : AroundTree) (os : List AroundTree) (p : SoFar) → p.around ≡ a ∷ os → Keeps p (leave_block a os p)
left-keeps a os p e = record {
  heading = refl;
  decls = refl;
  opens = λ n h. opens-same n os a.before a.id a.label (what_of a.opening p.list) (sym (ap (λ x. outermost x p.list) e) ∙ h);
  leads = λ x h. h;
}

loops-keep : (l : ℕ) (os : List AroundTree) (p : SoFar) → p.around ≡ os → Keeps p (leave_loops l os p)
loops-keep l [] p e = kept p
loops-keep l (a ∷ os) p e =
    let q = leave_block a os p in
    either-keeps (is_loop_to l a.opening) p (leave_loops l os q) p (chained p q (leave_loops l os q) (left-keeps a os p e) (loops-keep l os q refl)) (kept p)

ends-keep : (label : Option ℕ) (p : SoFar) → Keeps p (end_loops_at label p)
ends-keep None p = kept p
ends-keep (Some l) p = loops-keep l p.around p refl

closed-keeps : (os : List AroundTree) (f : ℕ) (cs : List (List ℕ)) (p : SoFar) → p.around ≡ os → Keeps p (close_innermost os f cs p)
closed-keeps [] f cs p e = kept p
closed-keeps (a ∷ os) f cs p e =
    let q = leave_block a os p in chained p q (add_spot (parts.Close a.id) f cs q) (left-keeps a os p e) (spot-keeps (parts.Close a.id) f cs q)

divided-keeps : (os : List AroundTree) (f : ℕ) (cs : List (List ℕ)) (test : Option ExprTree) (p : SoFar) → p.around ≡ os → Keeps p (divide_innermost os f cs test p)
unfolding add_spot
divided-keeps [] f cs test p e = kept p
divided-keeps (a ∷ os) f cs test p e =
    record { heading = refl; decls = refl; opens = λ n h. sym (ap (λ x. outermost x p.list) e) ∙ h; leads = λ x h. leads-more x p.spots (spot _ f cs) h }

executable-keeps : (f : ℕ) (label : Option ℕ) (cs : List (List ℕ)) (w : WhatTree) (p : SoFar) → Keeps p (add_executable f label cs w p)
unfolding add_executable add_spot
executable-keeps f label cs w p =
    record { heading = refl; decls = refl; opens = λ n h. opens-more n p.around p.list (stmt (p.count + 1) label w) h; leads = λ x h. leads-more x p.spots (spot _ f cs) h }

logical-keeps : (f : ℕ) (label : Option ℕ) (cs : List (List ℕ)) (e : ExprTree) (w : WhatTree) (p : SoFar) → Keeps p (add_logical_if f label cs e w p)
unfolding add_logical_if add_spot
logical-keeps f label cs e w p = record {
  heading = refl;
  decls = refl;
  opens = λ n h. opens-more n p.around p.list _ h;
  leads = λ x h. leads-more x (p.spots ++ spot (parts.Stmt (p.count + 1)) f cs ∷ []) (spot _ f []) (leads-more x p.spots (spot _ f cs) h);
}

open-keeps : (f : ℕ) (label : Option ℕ) (cs : List (List ℕ)) (o : OpeningTree) (p : SoFar) → Keeps p (open_block f label cs o p)
unfolding open_block add_spot
open-keeps f label cs o p =
    record { heading = refl; decls = refl; opens = λ n h. opens-more n p.around p.list (stmt (p.count + 1) label continue) h; leads = λ x h. leads-more x p.spots (spot _ f cs) h }

while-keeps : (f : ℕ) (label : Option ℕ) (cs : List (List ℕ)) (l : Option ℕ) (e : ExprTree) (p : SoFar) → Keeps p (open_block f label cs (opening_while l e) (add_while p))
unfolding open_block add_spot add_while
while-keeps f label cs l e p =
    record { heading = refl; decls = refl; opens = λ n h. opens-more n p.around p.list (stmt (p.count + 1) label continue) h; leads = λ x h. leads-more x p.spots (spot _ f cs) h }

continue-keeps : (f l : ℕ) (cs : List (List ℕ)) (p : SoFar) → Keeps p (add_continue f l cs p)
continue-keeps f l cs p =
    let q = add_executable f (Some l) cs continue p in chained p q (add_continue f l cs p) (executable-keeps f (Some l) cs continue p) (ends-keep (Some l) q)

close-keeps : (f : ℕ) (cs : List (List ℕ)) (p : SoFar) → Keeps p (close_block f cs p)
close-keeps f cs p = closed-keeps p.around f cs p refl

-- neither a heading nor a specification
abbrev IsInBody : PhraseTree → Type 0
IsInBody (program n) = ⊥
IsInBody (subroutine n ds) = ⊥
IsInBody (function form n ds) = ⊥
IsInBody (specification d) = ⊥
IsInBody (simple w) = Unit {0}
IsInBody (logical_if e w) = Unit {0}
IsInBody (block_if e) = Unit {0}
IsInBody (else_if e) = Unit {0}
IsInBody else_part = Unit {0}
IsInBody end_if = Unit {0}
IsInBody (do_head d) = Unit {0}
IsInBody (while_head l e) = Unit {0}
IsInBody end_do = Unit {0}
IsInBody end_module = Unit {0}

phrase-keeps : (f : ℕ) (label : Option ℕ) (cs : List (List ℕ)) (phrase : PhraseTree) (p : SoFar) → IsInBody phrase → Keeps p (add_phrase f label cs phrase p)
phrase-keeps f label cs (program n) p i = absurd i
phrase-keeps f label cs (subroutine n ds) p i = absurd i
phrase-keeps f label cs (function form n ds) p i = absurd i
phrase-keeps f label cs (specification d) p i = absurd i
phrase-keeps f label cs (simple w) p i =
    let q = add_executable f label cs w p in chained p q (end_loops_at label q) (executable-keeps f label cs w p) (ends-keep label q)
phrase-keeps f label cs (logical_if e w) p i =
    let q = add_logical_if f label cs e w p in chained p q (end_loops_at label q) (logical-keeps f label cs e w p) (ends-keep label q)
phrase-keeps f label cs (block_if e) p i = open-keeps f label cs (branches [] (Some e)) p
phrase-keeps f label cs (else_if e) p i = divided-keeps p.around f cs (Some e) p refl
phrase-keeps f label cs else_part p i = divided-keeps p.around f cs None p refl
phrase-keeps f None cs end_if p i = close-keeps f cs p
phrase-keeps f (Some l) cs end_if p i = let q = close_block f cs p in chained p q (add_continue f l [] q) (close-keeps f cs p) (continue-keeps f l [] q)
phrase-keeps f label cs (do_head d) p i = open-keeps f label cs (opening_loop d) p
phrase-keeps f label cs (while_head l e) p i = while-keeps f label cs l e p
phrase-keeps f None cs end_do p i = close-keeps f cs p
phrase-keeps f (Some l) cs end_do p i = let q = add_continue f l cs p in chained p q (close_block f [] q) (continue-keeps f l cs p) (close-keeps f [] q)
phrase-keeps f None cs end_module p i = spot-keeps parts.End f cs p
phrase-keeps f (Some l) cs end_module p i = let q = add_continue f l cs p in chained p q (add_spot parts.End f [] q) (continue-keeps f l cs p) (spot-keeps parts.End f [] q)

-- the specification statements are those that stood
pub phrase-decls : (f : ℕ) (label : Option ℕ) (cs : List (List ℕ)) (phrase : PhraseTree) (p : SoFar) → (add_phrase f label cs phrase p).decls ≡ p.decls ++ decls_by phrase
unfolding add_spot
phrase-decls f label cs (program n) p = sym (append-nil p.decls)
phrase-decls f label cs (subroutine n ds) p = sym (append-nil p.decls)
phrase-decls f label cs (function form n ds) p = sym (append-nil p.decls)
phrase-decls f label cs (specification d) p = refl
phrase-decls f label cs (simple w) p = (phrase-keeps f label cs (simple w) p tt).decls ∙ sym (append-nil p.decls)
phrase-decls f label cs (logical_if e w) p = (phrase-keeps f label cs (logical_if e w) p tt).decls ∙ sym (append-nil p.decls)
phrase-decls f label cs (block_if e) p = (phrase-keeps f label cs (block_if e) p tt).decls ∙ sym (append-nil p.decls)
phrase-decls f label cs (else_if e) p = (phrase-keeps f label cs (else_if e) p tt).decls ∙ sym (append-nil p.decls)
phrase-decls f label cs else_part p = (phrase-keeps f label cs else_part p tt).decls ∙ sym (append-nil p.decls)
phrase-decls f label cs end_if p = (phrase-keeps f label cs end_if p tt).decls ∙ sym (append-nil p.decls)
phrase-decls f label cs (do_head d) p = (phrase-keeps f label cs (do_head d) p tt).decls ∙ sym (append-nil p.decls)
phrase-decls f label cs (while_head l e) p = (phrase-keeps f label cs (while_head l e) p tt).decls ∙ sym (append-nil p.decls)
phrase-decls f label cs end_do p = (phrase-keeps f label cs end_do p tt).decls ∙ sym (append-nil p.decls)
phrase-decls f label cs end_module p = (phrase-keeps f label cs end_module p tt).decls ∙ sym (append-nil p.decls)

-- ---- what a module begins with

pub data Start : Type 0 where
  with_title : Start
  with_decl : Start
  with_statement : Start

abbrev pub part_at : Start → Part
part_at with_title = parts.Title
part_at with_decl = parts.Decl 0
part_at with_statement = parts.Stmt 1

-- the heading is written
abbrev pub is_titled : Heading → Bool
is_titled h = h.titled || not h.main

-- so many statements being executable
abbrev pub Begins : Start → SoFar → ℕ → Type 0
Begins with_title p k = is_titled p.heading ≡ true
Begins with_decl p k = record { bare : is_titled p.heading ≡ false; some : (d : DeclTree) × (ds : List DeclTree) × (p.decls ≡ d ∷ ds) }
Begins with_statement p k = record { bare : is_titled p.heading ≡ false; none : p.decls ≡ []; first : Opens 1 p.around p.list; counted : 1 ≤ k }

still-begins : (b : Start) (p q : SoFar) (k next : ℕ) → Keeps p q → k ≤ next → Begins b p k → Begins b q next
still-begins with_title p q k next g l h = ap is_titled g.heading ∙ h
still-begins with_decl p q k next g l h = record { bare = ap is_titled g.heading ∙ h.bare; some = (h.some.0, h.some.1, g.decls ∙ h.some.2) }
still-begins with_statement p q k next g l h =
    let c = h.counted in
    let counted : 1 ≤ next = omega arith in
    record { bare = ap is_titled g.heading ∙ h.bare; none = g.decls ∙ h.none; first = g.opens 1 h.first; counted = counted }

not-before : (k : ℕ) → 1 ≤ k → nat_lt 0 k ≡ false → ⊥
not-before k h e = grind (arith, nat_tests)

specification-begins : (b : Start) (f : ℕ) (cs : List (List ℕ)) (d : DeclTree) (p : SoFar) (k next : ℕ) → nat_lt 0 k ≡ false → Begins b p k → Begins b (add_specification f cs d p) next
unfolding add_spot
specification-begins with_title f cs d p k next o h = h
specification-begins with_decl f cs d p k next o h = record { bare = h.bare; some = (h.some.0, h.some.1 ++ d ∷ [], ap (λ x. x ++ d ∷ []) h.some.2) }
specification-begins with_statement f cs d p k next o h = absurd (not-before k h.counted o)

phrase-begins : (b : Start) (f : ℕ) (label : Option ℕ) (cs : List (List ℕ)) (phrase : PhraseTree) (p : SoFar) (main : Bool) (k next : ℕ) → is_out_of_order true main k (role_of phrase) ≡ false → k ≤ next
    → Begins b p k → Begins b (add_phrase f label cs phrase p) next
phrase-begins b f label cs (program n) p main k next o l h = cc
phrase-begins b f label cs (subroutine n ds) p main k next o l h = cc
phrase-begins b f label cs (function form n ds) p main k next o l h = cc
phrase-begins b f label cs (specification d) p main k next o l h = specification-begins b f cs d p k next o h
phrase-begins b f label cs (simple w) p main k next o l h = still-begins b p _ k next (phrase-keeps f label cs (simple w) p tt) l h
phrase-begins b f label cs (logical_if e w) p main k next o l h = still-begins b p _ k next (phrase-keeps f label cs (logical_if e w) p tt) l h
phrase-begins b f label cs (block_if e) p main k next o l h = still-begins b p _ k next (phrase-keeps f label cs (block_if e) p tt) l h
phrase-begins b f label cs (else_if e) p main k next o l h = still-begins b p _ k next (phrase-keeps f label cs (else_if e) p tt) l h
phrase-begins b f label cs else_part p main k next o l h = still-begins b p _ k next (phrase-keeps f label cs else_part p tt) l h
phrase-begins b f label cs end_if p main k next o l h = still-begins b p _ k next (phrase-keeps f label cs end_if p tt) l h
phrase-begins b f label cs (do_head d) p main k next o l h = still-begins b p _ k next (phrase-keeps f label cs (do_head d) p tt) l h
phrase-begins b f label cs (while_head t e) p main k next o l h = still-begins b p _ k next (phrase-keeps f label cs (while_head t e) p tt) l h
phrase-begins b f label cs end_do p main k next o l h = still-begins b p _ k next (phrase-keeps f label cs end_do p tt) l h
phrase-begins b f label cs end_module p main k next o l h = still-begins b p _ k next (phrase-keeps f label cs end_module p tt) l h

phrase-leads : (x : Spot) (f : ℕ) (label : Option ℕ) (cs : List (List ℕ)) (phrase : PhraseTree) (p : SoFar) → Leads x p.spots → Leads x (add_phrase f label cs phrase p).spots
unfolding add_spot
phrase-leads x f label cs (program n) p h = leads-more x p.spots (spot parts.Title f cs) h
phrase-leads x f label cs (subroutine n ds) p h = leads-more x p.spots (spot parts.Title f cs) h
phrase-leads x f label cs (function form n ds) p h = leads-more x p.spots (spot parts.Title f cs) h
phrase-leads x f label cs (specification d) p h = leads-more x p.spots (spot _ f cs) h
phrase-leads x f label cs (simple w) p h = (phrase-keeps f label cs (simple w) p tt).leads x h
phrase-leads x f label cs (logical_if e w) p h = (phrase-keeps f label cs (logical_if e w) p tt).leads x h
phrase-leads x f label cs (block_if e) p h = (phrase-keeps f label cs (block_if e) p tt).leads x h
phrase-leads x f label cs (else_if e) p h = (phrase-keeps f label cs (else_if e) p tt).leads x h
phrase-leads x f label cs else_part p h = (phrase-keeps f label cs else_part p tt).leads x h
phrase-leads x f label cs end_if p h = (phrase-keeps f label cs end_if p tt).leads x h
phrase-leads x f label cs (do_head d) p h = (phrase-keeps f label cs (do_head d) p tt).leads x h
phrase-leads x f label cs (while_head l e) p h = (phrase-keeps f label cs (while_head l e) p tt).leads x h
phrase-leads x f label cs end_do p h = (phrase-keeps f label cs end_do p tt).leads x h
phrase-leads x f label cs end_module p h = (phrase-keeps f label cs end_module p tt).leads x h

-- ---- a statement in which no fault is found

pub record Taken (m : Mark) (o next : Order) : Type 0 where
  pub before : o.found ≡ None
  pub order : is_out_of_order o.begun o.main o.count m.role ≡ false
  pub count : next.count ≡ o.count + statements_in m
  pub begun : next.begun ≡ true

taken-by : (label : Option ℕ) (m : Mark) (o : Order) → (counted m (keep_label m.line label o)).found ≡ None → Taken m o (counted m (keep_label m.line label o))
taken-by None m o h =
    let x = none_refused _ _ _ _ h in let y = none_refused _ _ _ _ x.1 in let z = none_refused _ _ _ _ y.1 in
    record { before = z.1; order = y.0; count = refl; begun = refl }
taken-by (Some l) m o h =
    let x = none_refused _ _ _ _ h in let y = none_refused _ _ _ _ x.1 in let z = none_refused _ _ _ _ y.1 in let u = none_refused _ _ _ _ z.1 in
    record { before = u.1; order = y.0; count = refl; begun = refl }

pub taken : (m : Mark) (o : Order) → (check_next m o).found ≡ None → Taken m o (check_next m o)
unfolding check_next
taken m o h = taken-by (label_in m) m o h

pub found-before : (ms : List Mark) (o : Order) → (all_ordered ms o).found ≡ None → o.found ≡ None
found-before [] o h = h
found-before (m ∷ ms) o h = (taken m o (found-before ms (check_next m o) h)).before

-- ---- all statements after the first

pub record Begun (b : Start) (x : Spot) (p : SoFar) : Type 0 where
  pub count : ℕ
  pub begins : Begins b p count
  pub leads : Leads x p.spots

pub all-begun : (b : Start) (x : Spot) (ss : List StatementTree) (p : SoFar) (o : Order) → o.begun ≡ true → (all_ordered (marks_of ss) o).found ≡ None → Begins b p o.count → Leads x p.spots
    → Begun b x (add_all ss p)
all-begun b x [] p o e h g f = record { count = o.count; begins = g; leads = f }
all-begun b x (s ∷ ss) p o e h g f =
    let next = check_next (mark_of s) o in
    let t = taken (mark_of s) o (found-before (marks_of ss) next h) in
    let order : is_out_of_order true o.main o.count (role_of s.phrase) ≡ false = sym (ap (λ v. is_out_of_order v o.main o.count (role_of s.phrase)) e) ∙ t.order in
    let c = t.count in
    let more : o.count ≤ next.count = omega arith in
    all-begun b x ss (add_statement s p) next t.begun h (phrase-begins b s.first s.label s.comments s.phrase p o.main o.count next.count order more g)
    (phrase-leads x s.first s.label s.comments s.phrase p f)
