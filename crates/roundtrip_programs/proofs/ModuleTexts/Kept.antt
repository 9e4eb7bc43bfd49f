-- What holds of each statement of a module holds of those that are written of it.
use Rattle.std.proofs.Common.{◌≡◌, ℕ, ◌+◌, Bool, true, false, List, [], ◌∷◌, ◌++◌, refl, sym, subst}
use Rattle.std.specs.Prelude.{Option, Some, None, if◌then◌else◌}
use Rattle.f77_ast.specs.declared.places.Part.{Part}
use Rattle.f77_ast.specs.declared.places.Part.TheVariants as parts
use Rattle.f77_ast.specs.Trees.{ExprTree, StmtTree, stmt, WhatTree, assign, call, goto, continue, return, stop, print, read, ArmTree, arm}
use Rattle.f77_ast.specs.Trees as trees
use Rattle.f77_ast.specs.DeclTrees.{DeclTree, ModuleTree}
use Rattle.f77_ast.specs.PlainStmt.{stmts_of, arms_of}
use Rattle.f77_statements.specs.Phrases.{PhraseTree, program, subroutine, function, specification, simple, logical_if, block_if, else_if, else_part, end_if, do_head, while_head, end_do, end_module}
use Rattle.f77_parser.specs.Statements.{StatementTree, marks_of}
use Rattle.f77_parser.specs.SoFar.{OpeningTree, opening_loop, opening_while, branches, AroundTree, SoFar, add_spot, add_executable, add_logical_if, open_block, add_while, what_of, leave_block, is_loop_to, leave_loops, end_loops_at, close_innermost, close_block}
use Rattle.f77_parser.specs.Building.{close_arm, divide_innermost, add_continue, add_phrase, add_statement, add_all, no_statements, written_module, build_module}
use Rattle.f77_printer.specs.ModuleText.{titled_dummies}
use Rattle.f77_structure.specs.Checks.{fault_of}
use Rattle.roundtrip_programs.specs.Statements.Formed.{Each}
use Rattle.roundtrip_programs.specs.Statements.Phrased.{IsWhat, IsPhrase}
use Rattle.roundtrip_programs.specs.Statements.Written.{as_written}
use Rattle.roundtrip_programs.specs.ModuleTexts.Cards.{Card, card, if_head, if_end, cards_of, cards_by, block_cards, part_cards, cards_in, title_cards, decl_cards, written_cards, statements_of}
use Rattle.roundtrip_programs.specs.ModuleTexts.ModuleLaws.{MaybeLabel, IsStatement, IsRead, IsCard, CardsRead}
pub use Rattle.roundtrip_programs.proofs.ModuleTexts.Each.{Each-append, each-map}
use Rattle.roundtrip_programs.proofs.ModuleTexts.Counted.{Divisible, Allowed, titled-same}
use Rattle.roundtrip_programs.proofs.ModuleTexts.Openings.{IsTold, AllMay}
use Rattle.roundtrip_programs.proofs.ModuleTexts.Fitting.{Tells}
use Rattle.roundtrip_programs.proofs.ModuleTexts.Standing.{still-told}
use Rattle.roundtrip_programs.proofs.ModuleTexts.FoldedLaws.{cards_back}
use Rattle.roundtrip_programs.proofs.ModuleTexts.Built.{told_of, all-told, written_well}

-- a claim on labels, one on what statements say, and one on what is then written of them
pub record Kind (M : Option ℕ → Type 0) (S P : PhraseTree → Type 0) : Type 0 where
  pub bare : M None
  pub formed : (p : PhraseTree) → S p → IsPhrase p
  pub written : (p : PhraseTree) → S p → P (as_written p)
  -- an ELSE IF that stands first in its block is written as the block IF
  pub first : (e : ExprTree) → P (else_if e) → P (block_if e)
  pub otherwise : P else_part
  pub end_branches : P end_if
  pub end_loop : P end_do
  pub end_all : P end_module
  -- which a label of one of these stands for
  pub labelled : P (simple continue)

-- a statement, and one that is written
abbrev pub Stated : (Option ℕ → Type 0) → (PhraseTree → Type 0) → StatementTree → Type 0
Stated M S s = M s.label × S s.phrase

abbrev pub Held : (Option ℕ → Type 0) → (PhraseTree → Type 0) → Card → Type 0
Held M P c = M c.label × P c.phrase

module _ (tells : ℕ → Bool) (M : Option ℕ → Type 0) (S P : PhraseTree → Type 0) (k : Kind M S P) where
  abbrev AllCards : List Card → Type 0
  AllCards cs = Each (Held M P) cs

  join : (xs ys : List Card) → AllCards xs → AllCards ys → AllCards (xs ++ ys)
  join xs ys h e = Each-append (Held M P) xs ys h e

  one : (part : Part) (label : Option ℕ) (phrase : PhraseTree) → M label → P phrase → AllCards (card part label phrase ∷ [])
  one part label phrase m h = record { first = (m, h); others = tt }

  -- ---- lists of statements

  abbrev ListHolds : List StmtTree → Type 0
  ListHolds l = AllCards (cards_in tells (stmts_of l))

  -- the cards behind these change
  behind-these : (xs ys zs : List Card) → AllCards (xs ++ ys) → (AllCards ys → AllCards zs) → AllCards (xs ++ zs)
  behind-these [] ys zs h e = e h
  behind-these (c ∷ xs) ys zs h e = record { first = h.first; others = behind-these xs ys zs h.others e }

  list-more : (l : List StmtTree) (s : StmtTree) → ListHolds l → AllCards (cards_of tells s) → ListHolds (l ++ s ∷ [])
  list-more [] s h e = join (cards_of tells s) [] e tt
  list-more (x ∷ l) s h e = behind-these (cards_of tells x) (cards_in tells (stmts_of l)) (cards_in tells (stmts_of (l ++ s ∷ []))) h (λ g. list-more l s g e)

  -- a part of a block IF, but for the first
  abbrev PartHolds : ArmTree → Type 0
  PartHolds (arm test body) = record { test : P (else_if test); below : AllCards (cards_in tells body) }

  -- the parts of a block IF, where there are any
  abbrev BlockHolds : List ArmTree → Type 0
  BlockHolds [] = Unit {0}
  BlockHolds (arm test body ∷ l) = record { test : P (block_if test); below : AllCards (cards_in tells body); parts : Each PartHolds l }

  -- the test of the part behind these
  abbrev TestHolds : List ArmTree → ExprTree → Type 0
  TestHolds [] test = P (block_if test)
  TestHolds (a ∷ l) test = P (else_if test)

  block-more : (l : List ArmTree) (test : ExprTree) (list : List StmtTree) → BlockHolds l → TestHolds l test → ListHolds list → BlockHolds (l ++ arm test (stmts_of list) ∷ [])
  block-more [] test list h t g = record { test = t; below = g; parts = tt }
  block-more (arm first body ∷ l) test list h t g =
      record { test = h.test; below = h.below; parts = Each-append PartHolds l (arm test (stmts_of list) ∷ []) h.parts (record { first = record { test = t; below = g }; others = tt }) }

  parts-hold : (id place : ℕ) (l : List ArmTree) (end : List Card) → Each PartHolds l → AllCards end → AllCards (part_cards tells id place (arms_of l) end)
  parts-hold id place [] end h e = e
  parts-hold id place (arm test body ∷ l) end h e = record {
    first = (k.bare, h.first.test);
    others = join (cards_in tells body) (part_cards tells id (place + 1) (arms_of l) end) h.first.below (parts-hold id (place + 1) l end h.others e);
  }

  -- the first and the last line go by what the number tells
  if-holds : (c : Bool) (test : ExprTree) → c ≡ false → P (block_if test) → P (if_head c test)
  if-holds true test e h = cc
  if-holds false test e h = h

  end-if-holds : (c : Bool) → c ≡ false → P (if_end c)
  end-if-holds true e = cc
  end-if-holds false e = k.end_branches

  while-holds : (c : Bool) (test : ExprTree) → c ≡ true → P (while_head None test) → P (if_head c test)
  while-holds true test e h = h
  while-holds false test e h = cc

  end-while-holds : (c : Bool) → c ≡ true → P (if_end c)
  end-while-holds true e = k.end_loop
  end-while-holds false e = cc

  block-holds : (id : ℕ) (label : Option ℕ) (l : List ArmTree) (end : List Card) → tells id ≡ false → M label → BlockHolds l → AllCards end → AllCards (block_cards tells id label (arms_of l) end)
  block-holds id label [] end t m h e = tt
  block-holds id label (arm test body ∷ l) end t m h e = record {
    first = (m, if-holds (tells id) test t h.test);
    others = join (cards_in tells body) (part_cards tells id 1 (arms_of l) end) h.below (parts-hold id 1 l end h.parts e);
  }

  -- ---- open blocks

  abbrev OpeningHolds : OpeningTree → Type 0
  OpeningHolds (opening_loop d) = P (as_written (do_head d))
  OpeningHolds (opening_while l e) = P (as_written (while_head l e))
  OpeningHolds (branches arms (Some test)) = record { parts : BlockHolds arms; test : TestHolds arms test }
  OpeningHolds (branches arms None) = BlockHolds arms

  abbrev AroundHolds : AroundTree → Type 0
  AroundHolds a = record { label : M a.label; list : ListHolds a.before; opening : OpeningHolds a.opening; told : Tells (tells a.id) a.opening }

  whole-holds : (id : ℕ) (label : Option ℕ) (o : OpeningTree) (l : List StmtTree) → M label → Tells (tells id) o → OpeningHolds o → ListHolds l → AllCards (cards_of tells (stmt id label (what_of o l)))
  whole-holds id label (opening_loop d) l m t o h = record {
    first = (m, o);
    others = join (cards_in tells (stmts_of l)) (card (parts.Close id) None end_do ∷ []) h (one (parts.Close id) None end_do k.bare k.end_loop);
  }
  whole-holds id label (opening_while n e) l m t o h = record {
    first = (m, while-holds (tells id) e t o);
    others = join (cards_in tells (stmts_of l)) (card (parts.Close id) None (if_end (tells id)) ∷ []) h (one (parts.Close id) None (if_end (tells id)) k.bare (end-while-holds (tells id) t));
  }
  whole-holds id label (branches arms (Some test)) l m t o h =
      block-holds id label (arms ++ arm test (stmts_of l) ∷ []) (card (parts.Close id) None (if_end (tells id)) ∷ []) t m
      (block-more arms test l o.parts o.test h)
      (one (parts.Close id) None (if_end (tells id)) k.bare (end-if-holds (tells id) t))
  whole-holds id label (branches arms None) l m t o h =
      block-holds id label arms (card (parts.Else id) None else_part ∷ cards_in tells (stmts_of l) ++ card (parts.Close id) None (if_end (tells id)) ∷ []) t m o
      (record {
        first = (k.bare, k.otherwise);
        others = join (cards_in tells (stmts_of l)) (card (parts.Close id) None (if_end (tells id)) ∷ []) h (one (parts.Close id) None (if_end (tells id)) k.bare (end-if-holds (tells id) t));
      })

  -- ---- what is so far

  -- the title, as it is in a module
  abbrev titled : SoFar → ModuleTree
  titled p = record { name = p.heading.name; main = p.heading.main; titled = p.heading.titled; dummies = p.heading.dummies; decls = []; body = trees.no_stmts; function = p.heading.function; references = []; whiles = [] }

  pub record Holds (p : SoFar) : Type 0 where
    pub title : AllCards (title_cards (titled p))
    pub decls : Each (λ d. P (specification d)) p.decls
    pub list : ListHolds p.list
    pub around : Each AroundHolds p.around

  left-holds : (a : AroundTree) (os : List AroundTree) (p : SoFar) → AroundHolds a → Each AroundHolds os → Holds p → Holds (leave_block a os p)
  left-holds a os p h e g = record {
    title = g.title;
    decls = g.decls;
    around = e;
    list = list-more a.before (stmt a.id a.label (what_of a.opening p.list)) h.list (whole-holds a.id a.label a.opening p.list h.label h.told h.opening g.list);
  }

  either-holds : (v : Bool) (x y : SoFar) → Holds x → Holds y → Holds (if v then x else y)
  either-holds true x y h e = h
  either-holds false x y h e = e

  ended_by-holds : (l : ℕ) (os : List AroundTree) (p : SoFar) → Each AroundHolds os → Holds p → Holds (leave_loops l os p)
  ended_by-holds l [] p h g = g
  ended_by-holds l (a ∷ os) p h g =
      either-holds (is_loop_to l a.opening) (leave_loops l os (leave_block a os p)) p (ended_by-holds l os (leave_block a os p) h.others (left-holds a os p h.first h.others g)) g

  ended_at-holds : (label : Option ℕ) (p : SoFar) → Holds p → Holds (end_loops_at label p)
  ended_at-holds None p g = g
  ended_at-holds (Some l) p g = ended_by-holds l p.around p g.around g

  closed-holds : (os : List AroundTree) (f : ℕ) (cs : List (List ℕ)) (p : SoFar) → Each AroundHolds os → Holds p → Holds (close_innermost os f cs p)
  unfolding add_spot
  closed-holds [] f cs p h g = g
  closed-holds (a ∷ os) f cs p h g = let x = left-holds a os p h.first h.others g in record { title = x.title; decls = x.decls; list = x.list; around = x.around }

  -- ---- statements

  simple-holds : (id : ℕ) (label : Option ℕ) (w : WhatTree) → M label → IsWhat w → P (simple w) → AllCards (cards_by tells id label w)
  simple-holds id label (assign v e) m f h = one (parts.Stmt id) label (simple (assign v e)) m h
  simple-holds id label (call c es) m f h = one (parts.Stmt id) label (simple (call c es)) m h
  simple-holds id label (goto t) m f h = one (parts.Stmt id) label (simple (goto t)) m h
  simple-holds id label continue m f h = one (parts.Stmt id) label (simple continue) m h
  simple-holds id label return m f h = one (parts.Stmt id) label (simple return) m h
  simple-holds id label (stop t) m f h = one (parts.Stmt id) label (simple (stop t)) m h
  simple-holds id label (print es) m f h = one (parts.Stmt id) label (simple (print es)) m h
  simple-holds id label (read es) m f h = one (parts.Stmt id) label (simple (read es)) m h
  simple-holds id label (trees.block_if arms other) m f h = absurd f
  simple-holds id label (trees.logical_if e s) m f h = absurd f
  simple-holds id label (trees.do_loop l) m f h = absurd f

  stated-holds : (f : ℕ) (label : Option ℕ) (cs : List (List ℕ)) (w : WhatTree) (p : SoFar) → M label → IsWhat w → P (simple w) → Holds p → Holds (add_executable f label cs w p)
  unfolding add_executable add_spot
  stated-holds f label cs w p m i h g =
      record { title = g.title; decls = g.decls; around = g.around; list = list-more p.list (stmt (p.count + 1) label w) g.list (simple-holds (p.count + 1) label w m i h) }

  conditioned-holds : (f : ℕ) (label : Option ℕ) (cs : List (List ℕ)) (e : ExprTree) (w : WhatTree) (p : SoFar) → M label → P (logical_if e w) → Holds p
      → Holds (add_logical_if f label cs e w p)
  unfolding add_logical_if add_spot
  conditioned-holds f label cs e w p m h g = record {
    title = g.title;
    decls = g.decls;
    around = g.around;
    list = list-more p.list (stmt (p.count + 1) label (trees.logical_if e (stmt (p.count + 1 + 1) None w))) g.list
        (record { first = (m, h); others = tt });
  }

  entered-holds : (f : ℕ) (label : Option ℕ) (cs : List (List ℕ)) (o : OpeningTree) (p : SoFar) → M label → Tells (tells (p.count + 1)) o → OpeningHolds o → Holds p → Holds (open_block f label cs o p)
  unfolding open_block add_spot
  entered-holds f label cs o p m t h g =
      record { title = g.title; decls = g.decls; list = tt; around = record { first = record { label = m; list = g.list; opening = h; told = t }; others = g.around } }

  arms-hold : (o : OpeningTree) (l : List StmtTree) → OpeningHolds o → ListHolds l → BlockHolds (close_arm o l)
  arms-hold (opening_loop d) l h g = tt
  arms-hold (opening_while n e) l h g = tt
  arms-hold (branches arms (Some test)) l h g = block-more arms test l h.parts h.test g
  arms-hold (branches arms None) l h g = h

  divided-holds : (os : List AroundTree) (f : ℕ) (cs : List (List ℕ)) (test : Option ExprTree) (p : SoFar)
      → ((arms : List ArmTree) → BlockHolds arms → OpeningHolds (branches arms test)) → Divisible os → Each AroundHolds os → Holds p → Holds (divide_innermost os f cs test p)
  unfolding add_spot
  divided-holds [] f cs test p t v h g = absurd v
  divided-holds (a ∷ os) f cs test p t v h g = record {
    title = g.title;
    decls = g.decls;
    list = tt;
    around = record { first = record { label = h.first.label; list = h.first.list; opening = t (close_arm a.opening p.list) (arms-hold a.opening p.list h.first.opening g.list); told = still-told tells (tells a.id) a.opening v h.first.told }; others = h.others };
  }

  continued-holds : (f l : ℕ) (cs : List (List ℕ)) (p : SoFar) → M (Some l) → Holds p → Holds (add_continue f l cs p)
  continued-holds f l cs p m g = ended_at-holds (Some l) (add_executable f (Some l) cs continue p) (stated-holds f (Some l) cs continue p m tt k.labelled g)

  test-holds : (e : ExprTree) → S (else_if e) → (arms : List ArmTree) → BlockHolds arms → OpeningHolds (branches arms (Some e))
  test-holds e h [] b = record { parts = tt; test = k.first e (k.written (else_if e) h) }
  test-holds e h (a ∷ arms) b = record { parts = b; test = k.written (else_if e) h }

  phrase-holds : (f : ℕ) (label : Option ℕ) (cs : List (List ℕ)) (phrase : PhraseTree) (p : SoFar) → M label → S phrase → Allowed phrase p.around → IsTold tells phrase (p.count + 1) → Holds p → Holds (add_phrase f label cs phrase p)
  unfolding add_spot add_while
  phrase-holds f label cs (program n) p m h v t g =
      record { title = one parts.Title None (program n) k.bare (k.written (program n) h); decls = g.decls; list = g.list; around = g.around }
  phrase-holds f label cs (subroutine n ds) p m h v t g =
      record { title = one parts.Title None (subroutine n ds) k.bare (k.written (subroutine n ds) h); decls = g.decls; list = g.list; around = g.around }
  phrase-holds f label cs (function form n ds) p m h v t g =
      let Q : List (List ℕ) → Type 0 = λ xs. P (function form n xs) in
      record {
        title = one parts.Title None (function form n (titled_dummies (ds ++ n ∷ []))) k.bare (subst Q (sym (titled-same ds n)) (k.written (function form n ds) h));
        decls = g.decls;
        list = g.list;
        around = g.around;
      }
  phrase-holds f label cs (specification d) p m h v t g =
      record { title = g.title; decls = Each-append (λ x. P (specification x)) p.decls (d ∷ []) g.decls (record { first = k.written (specification d) h; others = tt }); list = g.list; around = g.around }
  phrase-holds f label cs (simple w) p m h v t g = ended_at-holds label (add_executable f label cs w p) (stated-holds f label cs w p m (k.formed (simple w) h) (k.written (simple w) h) g)
  phrase-holds f label cs (logical_if e w) p m h v t g = ended_at-holds label (add_logical_if f label cs e w p) (conditioned-holds f label cs e w p m (k.written (logical_if e w) h) g)
  phrase-holds f label cs (block_if e) p m h v t g = entered-holds f label cs (branches [] (Some e)) p m t (record { parts = tt; test = k.written (block_if e) h }) g
  phrase-holds f label cs (else_if e) p m h v t g = divided-holds p.around f cs (Some e) p (test-holds e h) v g.around g
  phrase-holds f label cs else_part p m h v t g = divided-holds p.around f cs None p (λ arms x. x) v g.around g
  phrase-holds f None cs end_if p m h v t g = closed-holds p.around f cs p g.around g
  phrase-holds f (Some l) cs end_if p m h v t g = continued-holds f l [] (close_block f cs p) m (closed-holds p.around f cs p g.around g)
  phrase-holds f label cs (do_head d) p m h v t g = entered-holds f label cs (opening_loop d) p m tt (k.written (do_head d) h) g
  phrase-holds f label cs (while_head l e) p m h v t g =
      entered-holds f label cs (opening_while l e) (add_while p) m t (k.written (while_head l e) h) (record { title = g.title; decls = g.decls; list = g.list; around = g.around })
  phrase-holds f None cs end_do p m h v t g = closed-holds p.around f cs p g.around g
  phrase-holds f (Some l) cs end_do p m h v t g =
      let q = add_continue f l cs p in let c = continued-holds f l cs p m g in closed-holds q.around f [] q c.around c
  phrase-holds f None cs end_module p m h v t g = record { title = g.title; decls = g.decls; list = g.list; around = g.around }
  phrase-holds f (Some l) cs end_module p m h v t g =
      let c = continued-holds f l cs p m g in record { title = c.title; decls = c.decls; list = c.list; around = c.around }

  all-hold : (ss : List StatementTree) (p : SoFar) → Each (Stated M S) ss → AllMay tells ss p → Holds p → Holds (add_all ss p)
  all-hold [] p h may g = g
  all-hold (s ∷ ss) p h may g =
      all-hold ss (add_statement s p) h.others may.others (phrase-holds s.first s.label s.comments s.phrase p h.first.0 h.first.1 may.may may.told g)

  decls-hold : (place : ℕ) (ds : List DeclTree) → Each (λ d. P (specification d)) ds → AllCards (decl_cards place ds)
  decls-hold place [] h = tt
  decls-hold place (d ∷ ds) h = record { first = (k.bare, h.first); others = decls-hold (place + 1) ds h.others }

  pub kept_by : (closing : List (List ℕ)) (ss : List StatementTree) → AllMay tells ss no_statements → Each (Stated M S) ss
      → (let p = add_all ss no_statements in AllCards (title_cards (titled p) ++ decl_cards 0 p.decls ++ cards_in tells (stmts_of p.list) ++ card parts.End None end_module ∷ []))
  kept_by closing ss may h =
      let p = add_all ss no_statements in
      let g = all-hold ss no_statements h may (record { title = tt; decls = tt; list = tt; around = tt }) in
      let title = title_cards (titled p) in let decls = decl_cards 0 p.decls in let body = cards_in tells (stmts_of p.list) in
      join (title ++ decls ++ body) (card parts.End None end_module ∷ [])
      (join (title ++ decls) body (join title decls g.title (decls-hold 0 p.decls g.decls)) g.list)
      (one parts.End None end_module k.bare k.end_all)

-- ---- of a module without a fault

pub written_held : (M : Option ℕ → Type 0) (S P : PhraseTree → Type 0) → Kind M S P → (closing : List (List ℕ)) (ss : List StatementTree) → AllMay (told_of ss) ss no_statements
    → Each (Stated M S) ss → Each (Held M P) (written_cards (written_module closing ss).module_read)
unfolding written_module written_cards
written_held M S P k closing ss may h = kept_by (told_of ss) M S P k closing ss may h

pub all_held : (M : Option ℕ → Type 0) (S P : PhraseTree → Type 0) → Kind M S P → (closing : List (List ℕ)) (begun : List StatementTree) (s : StatementTree) → s.phrase ≡ end_module
    → Each (Stated M S) (begun ++ s ∷ []) → fault_of (marks_of (begun ++ s ∷ [])) ≡ None → Each (Held M P) (statements_of (build_module closing (begun ++ s ∷ [])).module_read)
unfolding build_module
all_held M S P k closing begun s e h none =
    let ss = begun ++ s ∷ [] in
    let i = each-map (Stated M S) IsStatement ss (λ x y. k.formed x.phrase y.1) h in
    let w = (written_module closing ss).module_read in
    let Q : List Card → Type 0 = λ cs. Each (Held M P) cs in
    subst Q (sym (cards_back w (written_well closing begun s e i none))) (written_held M S P k closing ss (all-told begun s i none) h)

-- ---- they are formed as what was read

abbrev IsWritten : PhraseTree → Type 0
IsWritten p = IsPhrase p × (as_written p ≡ p)

written : (p : PhraseTree) → IsPhrase p → IsWritten (as_written p)
written (program n) h = (h, refl)
written (subroutine n ds) h = (h, refl)
written (function form n ds) h = (h, refl)
written (specification d) h = (h, refl)
written (simple w) h = (h, refl)
written (logical_if e w) h = (h, refl)
written (block_if e) h = (h, refl)
written (else_if e) h = (h, refl)
written else_part h = (h, refl)
written end_if h = (h, refl)
written (do_head d) h = (record { index = h.index; first = h.first; last = h.last; step = h.step }, refl)
written (while_head l e) h = (h, refl)
written end_do h = (h, refl)
written end_module h = (h, refl)

kind : Kind MaybeLabel IsPhrase IsWritten
kind = record {
  bare = tt;
  formed = λ p h. h;
  written = written;
  first = λ e h. (h.0, refl);
  otherwise = (tt, refl);
  end_branches = (tt, refl);
  end_loop = (tt, refl);
  end_all = (tt, refl);
  labelled = (tt, refl);
}

pub cards_read : CardsRead
cards_read closing begun s e h none =
    let ss = begun ++ s ∷ [] in
    each-map (Held MaybeLabel IsWritten) IsCard (statements_of (build_module closing ss).module_read) (λ c x. record { label = x.0; phrase = x.1.0; same = x.1.1 })
    (all_held MaybeLabel IsPhrase IsWritten kind closing begun s e (each-map IsRead (Stated MaybeLabel IsPhrase) ss (λ x y. (y.label, y.phrase)) h) none)
