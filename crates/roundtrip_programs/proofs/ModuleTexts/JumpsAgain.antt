-- In the statements that are written of a module the GO TOs have no fault.
use Rattle.std.proofs.Common.{◌≡◌, ℕ, zero, suc, ◌+◌, true, false, List, [], ◌∷◌, ◌++◌, nat_eq, nat_le, refl, sym, ap, ◌∙◌, subst, arith}
use Rattle.std.specs.Prelude.{None, ◌&&◌, ◌||◌}
use Rattle.std.proofs.lemmas.Bool.Decides.{nat_tests}
use Rattle.f77_ast.specs.DeclTrees.{ModuleTree}
use Rattle.f77_statements.specs.Phrases.{end_module}
use Rattle.f77_ast.specs.PlainStmt.{stmts_of}
use Rattle.f77_structure.specs.declared.open.End.TheVariants as ends
use Rattle.f77_structure.specs.declared.blocks.Blocks.{Blocks}
use Rattle.f77_structure.specs.declared.blocks.Landing.{Landing}
use Rattle.f77_structure.specs.Opens.{contains}
use Rattle.f77_structure.specs.Jumps.{all_judged, block_fault}
use Rattle.f77_structure.specs.Checks.{fault_of}
use Rattle.f77_structure.specs.Steps.{by_role, parse_statement, all_stepped, nothing_open, blocks_of}
use Rattle.f77_parser.specs.Roles.{role_of}
use Rattle.f77_parser.specs.Statements.{StatementTree, mark_of, marks_of}
use Rattle.f77_parser.specs.SoFar.{AroundTree, SoFar}
use Rattle.f77_parser.specs.Building.{add_statement, add_all, no_statements, written_module, build_module}
use Rattle.roundtrip_programs.specs.Statements.Formed.{Each}
use Rattle.roundtrip_programs.specs.ModuleTexts.Folded.{folded}
use Rattle.roundtrip_programs.specs.ModuleTexts.Numbered.{IsWell}
use Rattle.roundtrip_programs.specs.ModuleTexts.ModuleLaws.{IsStatement, AreWritten}
use Rattle.roundtrip_programs.proofs.ModuleTexts.Bare.{all_turned, all_stated-bare, all_made-turned}
use Rattle.roundtrip_programs.proofs.ModuleTexts.TreeLists.{stmts_of-list_of}
use Rattle.roundtrip_programs.proofs.ModuleTexts.Again.{made}
use Rattle.roundtrip_programs.proofs.ModuleTexts.Steady.{step-calm, all-found, no-fault}
use Rattle.roundtrip_programs.proofs.ModuleTexts.Matched.{Matches, on-stack, phrase-matched}
use Rattle.roundtrip_programs.proofs.ModuleTexts.Well.{nothing-goes, all-closed}
use Rattle.roundtrip_programs.proofs.ModuleTexts.FoldedLaws.{written_back}
use Rattle.roundtrip_programs.proofs.ModuleTexts.Built.{written_well, built_well}
use Rattle.roundtrip_programs.proofs.ModuleTexts.Steps.{built_nested, blocks_again}
use Rattle.roundtrip_programs.specs.ModuleTexts.Cards.{statements_of}
use Rattle.roundtrip_programs.specs.ModuleTexts.JumpLaws.{JumpsAgain}
use Rattle.roundtrip_programs.proofs.ModuleTexts.Outlines.{Outline, nothing_outlined}
use Rattle.roundtrip_programs.proofs.ModuleTexts.TreeOutlines.{outline_in}
use Rattle.roundtrip_programs.proofs.ModuleTexts.SoFarOutlines.{outline_with, outline_so, phrase-alone}
use Rattle.roundtrip_programs.proofs.ModuleTexts.Shown.{Within, span, Before}
use Rattle.roundtrip_programs.proofs.ModuleTexts.JumpStanding.{at-blocks}
use Rattle.roundtrip_programs.proofs.ModuleTexts.Reached.{AllReach, judged-reach, reach-judged}
use Rattle.roundtrip_programs.proofs.ModuleTexts.JumpPhrases.{phrase-stands}
use Rattle.roundtrip_programs.proofs.ModuleTexts.Written.{IsAlone, written_alone}

-- ---- all statements

-- the blocks before a statement at some place show the outline
record Shown (b : Blocks) (x : Outline) : Type 0 where
  at : ℕ
  shown : Before at (record b { place = at }) x

all-stand : (ss : List StatementTree) (at : ℕ) (p : SoFar) (b : Blocks) → Each IsAlone ss → Matches p.around b.stack → Before at (record b { place = at }) (outline_so p)
    → (all_stepped at (marks_of ss) b).found ≡ None → Shown (all_stepped at (marks_of ss) b) (outline_so (add_all ss p))
all-stand [] at p b i m s h = record { at = at; shown = s }
all-stand (x ∷ ss) at p b i m s h =
    let next = parse_statement at (mark_of x) b in
    let here = record b { place = at } in
    let after = by_role (role_of x.phrase) x.label x.first here in
    let e = all-found (at + 1) (marks_of ss) next h in
    let c = step-calm at (mark_of x) b e in
    let g : after.found ≡ None = sym (ap (λ y. y.found) c.same) ∙ e in
    let q = add_statement x p in
    let t = phrase-matched x.first x.label x.comments x.phrase x.first p here m g in
    let u = at-blocks at (at + 1) after next (outline_so q) (sym c.same) (phrase-stands at x.first x.label x.comments x.phrase x.first p here i.first m g s) in
    all-stand ss (at + 1) q next i.others (on-stack q.around after.stack next.stack (ap (λ y. y.stack) (sym c.same)) t.matched)
    (record { place = refl; within = u.within; count = u.count; landings = u.landings; jumps = u.jumps; stack = u.stack; now = u.now }) h

nothing-within : (q : ℕ) → Within (span 0 ends.Open ∷ []) q (0 ∷ [])
unfolding contains
nothing-within q zero = let least : nat_le 0 q ≡ true = grind (arith, nat_tests) in ap (λ v. v && true) least
nothing-within q (suc k) = let apart : nat_eq 0 (suc k) ≡ false = grind (arith, nat_tests) in sym (ap (λ v. v || false) apart)

nothing-shown : Before 0 nothing_open nothing_outlined
nothing-shown = record { place = refl; within = refl; count = refl; landings = refl; jumps = tt; stack = tt; now = λ q h. nothing-within q }

all-alone : (ss : List StatementTree) → Each IsStatement ss → Each IsAlone ss
all-alone [] h = tt
all-alone (s ∷ ss) h = record { first = phrase-alone s.phrase h.first; others = all-alone ss h.others }

-- ---- the outline of a module

body-outline : (p : SoFar) → p.around ≡ [] → outline_so p ≡ outline_in (stmts_of p.list) nothing_outlined
body-outline p e = ap (λ (xs : List AroundTree). outline_with xs p) e

written-outline : (m : ModuleTree) (ss : List StatementTree) → IsWell m → AreWritten m ss → outline_so (add_all ss no_statements) ≡ outline_in (folded m).body nothing_outlined
written-outline m ss well written =
    ap outline_so (all_stated-bare ss no_statements
    ∙ ap (λ ls. all_turned ls no_statements) written
    ∙ sym (all_made-turned (statements_of m) no_statements)
    ∙ made m well)
    ∙ ap (λ t. outline_in t nothing_outlined) (stmts_of-list_of (folded m).body)

-- ---- the GO TOs

all-reach : (b : Blocks) (x : Outline) → Shown b x → block_fault b ≡ None → AllReach x.landings x.goings
all-reach b x s h =
    let P : List Landing → Type 0 = λ ls. AllReach ls x.goings in
    subst P s.shown.landings (judged-reach s.at b.spans b.landings b.jumps x.goings b.found s.shown.jumps h)

none-faulty : (b : Blocks) (x : Outline) → Shown b x → b.found ≡ None → AllReach x.landings x.goings → block_fault b ≡ None
none-faulty b x s e r =
    let P : List Landing → Type 0 = λ ls. AllReach ls x.goings in
    ap (all_judged b.spans b.landings b.jumps) e ∙ reach-judged s.at b.spans b.landings b.jumps x.goings s.shown.jumps (subst P (sym s.shown.landings) r)

-- in a module as it is written each GO TO reaches its label
pub all_reach_there : (closing : List (List ℕ)) (begun : List StatementTree) (s : StatementTree) → s.phrase ≡ end_module → Each IsStatement (begun ++ s ∷ []) → fault_of (marks_of (begun ++ s ∷ [])) ≡ None
    → (let x = outline_in (written_module closing (begun ++ s ∷ [])).module_read.body nothing_outlined in AllReach x.landings x.goings)
unfolding written_module
all_reach_there closing begun s e i h =
    let rs = begun ++ s ∷ [] in
    let f = no-fault (marks_of rs) h in
    let p = add_all rs no_statements in
    let read = all-stand rs 0 no_statements nothing_open (all-alone rs i) tt nothing-shown f.2 in
    let same = body-outline p (all-closed begun s 0 no_statements nothing_open e i nothing-goes f.2) in
    let P : Outline → Type 0 = λ x. AllReach x.landings x.goings in
    subst P same (all-reach (blocks_of (marks_of rs)) (outline_so p) read f.1)

pub jumps_again : JumpsAgain
unfolding build_module written_module
jumps_again closing begun s ss e i h written =
    let rs = begun ++ s ∷ [] in
    let m = (build_module closing rs).module_read in
    let f = no-fault (marks_of rs) h in
    let well = built_well closing begun s e i h in
    let p = add_all rs no_statements in
    let q = add_all ss no_statements in
    let g = blocks_again m ss (built_nested closing begun s e i h) written in
    let read = all-stand rs 0 no_statements nothing_open (all-alone rs i) tt nothing-shown f.2 in
    let again = all-stand ss 0 no_statements nothing_open (written_alone m ss written) tt nothing-shown g in
    let back = written_back (written_module closing rs).module_read (written_well closing begun s e i h) in
    let same : outline_so p ≡ outline_so q =
    body-outline p (all-closed begun s 0 no_statements nothing_open e i nothing-goes f.2) ∙ ap (λ (x : ModuleTree). outline_in x.body nothing_outlined) (sym back) ∙ sym (written-outline m ss well written) in
    let P : Outline → Type 0 = λ x. AllReach x.landings x.goings in
    none-faulty (blocks_of (marks_of ss)) (outline_so q) again g (subst P same (all-reach (blocks_of (marks_of rs)) (outline_so p) read f.1))
