-- A module without a fault is numbered in the order of its text.
use Rattle.std.proofs.Common.{◌≡◌, ℕ, ◌+◌, List, [], ◌∷◌, ◌++◌, refl, sym, ap, ◌∙◌}
use Rattle.std.specs.Prelude.{Option, Some, None}
use Rattle.f77_statements.specs.Phrases.{PhraseTree, end_module}
use Rattle.f77_structure.specs.declared.mark.Role.TheVariants as roles
use Rattle.f77_structure.specs.declared.blocks.Blocks.{Blocks}
use Rattle.f77_structure.specs.Blocks.{parse_executable}
use Rattle.f77_structure.specs.Steps.{by_role, parse_statement, all_stepped, nothing_open}
use Rattle.f77_parser.specs.Roles.{role_of}
use Rattle.f77_parser.specs.Statements.{StatementTree, mark_of, marks_of}
use Rattle.f77_parser.specs.SoFar.{SoFar, add_spot}
use Rattle.f77_parser.specs.Building.{add_continue, add_phrase, add_statement, add_all, no_statements}
use Rattle.roundtrip_programs.specs.Statements.Formed.{Each}
use Rattle.roundtrip_programs.specs.ModuleTexts.ModuleLaws.{IsStatement}
use Rattle.roundtrip_programs.proofs.ModuleTexts.Steady.{step-calm, all-found}
use Rattle.roundtrip_programs.proofs.ModuleTexts.Counted.{Counts, phrase-counts}
use Rattle.roundtrip_programs.proofs.ModuleTexts.Matched.{Matches, on-stack, stood-matched, continued-matched, module-closed, phrase-matched}

-- the blocks are those of the structure, and the numbers go on
pub record Goes (p : SoFar) (b : Blocks) : Type 0 where
  pub matched : Matches p.around b.stack
  pub counts : Counts p

-- one statement more, which has no fault
pub one-goes : (s : StatementTree) (place : ℕ) (p : SoFar) (b : Blocks) → IsStatement s → Goes p b → (parse_statement place (mark_of s) b).found ≡ None
    → Goes (add_statement s p) (parse_statement place (mark_of s) b)
one-goes s place p b i g h =
    let at = record b { place = place } in
    let c = step-calm place (mark_of s) b h in
    let after = by_role (role_of s.phrase) s.label s.first at in
    let t = phrase-matched s.first s.label s.comments s.phrase s.first p at g.matched (sym (ap (λ x. x.found) c.same) ∙ h) in
    record {
      matched = on-stack (add_statement s p).around after.stack (parse_statement place (mark_of s) b).stack (ap (λ x. x.stack) (sym c.same)) t.matched;
      counts = phrase-counts s.first s.label s.comments s.phrase p i t.may g.counts;
    }

pub all-go : (ss : List StatementTree) (place : ℕ) (p : SoFar) (b : Blocks) → Each IsStatement ss → Goes p b → (all_stepped place (marks_of ss) b).found ≡ None
    → Goes (add_all ss p) (all_stepped place (marks_of ss) b)
all-go [] place p b i g h = g
all-go (s ∷ ss) place p b i g h =
    let next = parse_statement place (mark_of s) b in
    all-go ss (place + 1) (add_statement s p) next i.others (one-goes s place p b i.first g (all-found (place + 1) (marks_of ss) next h)) h

-- ---- END

end-closed : (f : ℕ) (label : Option ℕ) (cs : List (List ℕ)) (line : ℕ) (p : SoFar) (b : Blocks) → Matches p.around b.stack → (by_role roles.End label line b).found ≡ None
    → (add_phrase f label cs end_module p).around ≡ []
unfolding add_spot
end-closed f None cs line p b m h = (module-closed p (parse_executable None b) (stood-matched None p b m) h).0
end-closed f (Some l) cs line p b m h = (module-closed (add_continue f l cs p) (parse_executable (Some l) b) (continued-matched f l cs p b m) h).0

last-closed : (s : StatementTree) (phrase : PhraseTree) (p : SoFar) (b : Blocks) → phrase ≡ end_module → Matches p.around b.stack
    → (by_role (role_of phrase) s.label s.first b).found ≡ None → (add_phrase s.first s.label s.comments phrase p).around ≡ []
last-closed s phrase p b e m h =
    ap (λ x. (add_phrase s.first s.label s.comments x p).around) e
    ∙ end-closed s.first s.label s.comments s.first p b m (sym (ap (λ x. (by_role (role_of x) s.label s.first b).found) e) ∙ h)

pub all-closed : (begun : List StatementTree) (s : StatementTree) (place : ℕ) (p : SoFar) (b : Blocks) → s.phrase ≡ end_module → Each IsStatement (begun ++ s ∷ []) → Goes p b
    → (all_stepped place (marks_of (begun ++ s ∷ [])) b).found ≡ None → (add_all (begun ++ s ∷ []) p).around ≡ []
all-closed [] s place p b e i g h =
    let c = step-calm place (mark_of s) b h in
    last-closed s s.phrase p (record b { place = place }) e g.matched (sym (ap (λ x. x.found) c.same) ∙ h)
all-closed (x ∷ begun) s place p b e i g h =
    let next = parse_statement place (mark_of x) b in
    all-closed begun s (place + 1) (add_statement x p) next e i.others
    (one-goes x place p b i.first g (all-found (place + 1) (marks_of (begun ++ s ∷ [])) next h)) h

pub nothing-goes : Goes no_statements nothing_open
nothing-goes = record { matched = tt; counts = record { heading = record { title = record { alone = refl; unnamed = refl }; function = tt }; around = tt; list = tt; count = refl } }
