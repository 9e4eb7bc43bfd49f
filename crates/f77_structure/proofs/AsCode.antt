-- The first fault that the code finds is that of the definition.
use Rattle.std.proofs.Common.{◌≡◌, ℕ, zero, suc, ◌+◌, Bool, true, false, List, [], ◌∷◌, nat_eq, nat_le, refl, sym, ap, ap₂, ◌∙◌, arith}
use Rattle.std.specs.Prelude.{Option, None, not, ◌||◌, ◌&&◌, if◌then◌else◌}
use Rattle.std.proofs.lemmas.Bool.Decides.{nat_tests}
use Rattle.fx_lists.specs.declared.code.Code.TheVariants.{BadTerminal, LabelMissing, JumpIntoBlock}
use Rattle.fx_lists.specs.declared.refusal.Refusal.{Refusal}
use Rattle.f77_structure.specs.declared.mark.Mark.{Mark}
use Rattle.f77_structure.specs.declared.open.End.TheVariants as ends
use Rattle.f77_structure.specs.declared.open.Span.{Span}
use Rattle.f77_structure.specs.declared.blocks.Blocks.{Blocks}
use Rattle.f77_structure.specs.declared.blocks.Landing.{Landing}
use Rattle.f77_structure.specs.declared.blocks.Jump.{Jump}
use Rattle.fx_lists.specs.Refusals.{refuse_if}
use Rattle.f77_structure.specs.Order.{order_of}
use Rattle.f77_structure.specs.First.{first_fault}
use Rattle.f77_structure.specs.Nesting.{Going, Nesting, nothing, is_bad_end, over_by, after}
use Rattle.f77_structure.specs.Checks.{fault_if, faults_by, faults_at, stands, is_reached, jump_faults, all_jump_faults, nest_faults, first_among, fault_of}
use Rattle.f77_structure.specs.Opens.{contains}
use Rattle.f77_structure.specs.Terminals.{spoiled_by}
use Rattle.f77_structure.specs.Steps.{by_role, parse_statement, all_stepped, nothing_open, blocks_of}
use Rattle.f77_structure.specs.Jumps.{reaches, check_jump, all_judged, block_fault}
use Rattle.f77_structure.proofs.Stands.{among-append, among-if, among-first, first-none, Stands}
use Rattle.f77_structure.proofs.Over.{last-marks}
use Rattle.f77_structure.proofs.Roles.{role-does}
use Rattle.f77_structure.proofs.Shown.{Within, span, AreKept}

-- ---- GO TOs

reached-is : (spans : List Span) (j : Jump) (g : Going) (ls : List Landing) → j.label ≡ g.label → Within spans j.place g.lists → reaches spans ls j ≡ is_reached ls g
reached-is spans j g [] e w = refl
reached-is spans j g (x ∷ ls) e w =
    ap₂ (λ v u. v && u) (ap₂ (λ l v. not (nat_eq x.label l) || v) e (w x.list)) (reached-is spans j g ls e w)

judged-by : (v w : Bool) (line : ℕ) (found : Option Refusal)
    → (if v then refuse_if w line JumpIntoBlock found else refuse_if true line LabelMissing found)
    ≡ first_among (if v then fault_if w line JumpIntoBlock else fault_if true line LabelMissing) found
judged-by true w line found = sym (among-if w line JumpIntoBlock found)
judged-by false w line found = refl

judged-is : (spans : List Span) (ls : List Landing) (j : Jump) (g : Going) (found : Option Refusal) → j.line ≡ g.line → j.label ≡ g.label → Within spans j.place g.lists
    → check_jump spans ls j found ≡ first_among (jump_faults ls g) found
judged-is spans ls j g found i e w =
    let fault : Bool → Bool → ℕ → Option Refusal = λ v u line. if v then refuse_if (not u) line JumpIntoBlock found else refuse_if true line LabelMissing found in
    ap (λ l. fault (stands ls l) (reaches spans ls j) j.line) e
    ∙ ap₂ (λ u line. fault (stands ls g.label) u line) (reached-is spans j g ls e w) i
    ∙ judged-by (stands ls g.label) (not (is_reached ls g)) g.line found

all-judged-is : (n : ℕ) (spans : List Span) (ls : List Landing) (js : List Jump) (gs : List Going) (found : Option Refusal) → AreKept n spans js gs
    → all_judged spans ls js found ≡ first_among (all_jump_faults ls gs) found
all-judged-is n spans ls [] [] found k = refl
all-judged-is n spans ls [] (g ∷ gs) found k = absurd k
all-judged-is n spans ls (j ∷ js) [] found k = absurd k
all-judged-is n spans ls (j ∷ js) (g ∷ gs) found k =
    ap (all_judged spans ls js) (judged-is spans ls j g found k.line k.label k.within)
    ∙ all-judged-is n spans ls js gs (first_among (jump_faults ls g) found) k.others
    ∙ sym (among-append (jump_faults ls g) (all_jump_faults ls gs) found)

-- ---- statements

-- the blocks at a place are those of the definition
abbrev Nests : ℕ → Blocks → Nesting → Type 0
Nests at b n = Stands at at at (record b { place = at }) n.blocks n.lists n.labels n.jumps

next-nests : (at : ℕ) (c : Blocks) (n : Nesting) → Stands (at) (at + 1) (at + 1) c n.blocks n.lists n.labels n.jumps → Nests (at + 1) c n
next-nests at c n t = record {
  blocks = t.blocks;
  cached = t.cached;
  shows = record { place = refl; count = t.shows.count; landings = t.shows.landings; jumps = t.shows.jumps; stack = t.shows.stack; now = t.shows.now };
}

record Steps (at : ℕ) (m : Mark) (b c : Blocks) (n : Nesting) : Type 0 where
  nests : Nests (at + 1) c (after m n)
  found : c.found ≡ first_among (faults_at m n.blocks) b.found

step : (at : ℕ) (m : Mark) (b : Blocks) (n : Nesting) → Nests at b n → Steps at m b (parse_statement at m b) n
unfolding parse_statement
step at m b n t =
    let here = record b { place = at } in
    let s = last-marks at at at m.role m.label m.line here n.blocks n.lists n.labels n.jumps t in
    let os = over_by m.role m.label n.blocks in
    let c = spoiled_by m.role m.label m.line here in
    let d = role-does at m.line c os n.lists n.labels n.jumps s.stands m.role m.label in
    let bad = fault_if (is_bad_end m.role m.label n.blocks) m.line BadTerminal in
    let faults = faults_by m.role m.label m.line os in
    record {
      nests = next-nests at (by_role m.role m.label m.line c) (after m n) d.stands;
      found = d.found
          ∙ ap (first_among faults) (s.found ∙ sym (among-if (is_bad_end m.role m.label n.blocks) m.line BadTerminal b.found))
          ∙ sym (among-append bad faults b.found);
    }

all-nest : (ms : List Mark) (at : ℕ) (b : Blocks) (n : Nesting) → Nests at b n → block_fault (all_stepped at ms b) ≡ first_among (nest_faults n ms) b.found
all-nest [] at b n t =
    ap (λ ls. all_judged b.spans ls b.jumps b.found) t.shows.landings ∙ all-judged-is at b.spans n.labels b.jumps n.jumps b.found t.shows.jumps
all-nest (m ∷ ms) at b n t =
    let s = step at m b n t in
    let rest = nest_faults (after m n) ms in
    all-nest ms (at + 1) (parse_statement at m b) (after m n) s.nests
    ∙ ap (first_among rest) s.found
    ∙ sym (among-append (faults_at m n.blocks) rest b.found)

-- ---- the module

pub nothing-within : (q : ℕ) → Within (span 0 ends.Open ∷ []) q (0 ∷ [])
unfolding contains
nothing-within q zero = let least : nat_le 0 q ≡ true = grind (arith, nat_tests) in ap (λ v. v && true) least
nothing-within q (suc k) = let apart : nat_eq 0 (suc k) ≡ false = grind (arith, nat_tests) in sym (ap (λ v. v || false) apart)

nothing-nests : Nests 0 nothing_open nothing
nothing-nests = record {
  blocks = refl;
  cached = tt;
  shows = record { place = refl; count = refl; landings = refl; jumps = tt; stack = tt; now = λ q h. nothing-within q };
}

-- the first fault by the blocks of the code
pub as_code : (ms : List Mark) → first_fault (order_of ms) (block_fault (blocks_of ms)) ≡ fault_of ms
unfolding fault_of
as_code ms =
    ap (first_fault (order_of ms)) (all-nest ms 0 nothing_open nothing nothing-nests)
    ∙ sym (among-first (nest_faults nothing ms) (order_of ms) None)
    ∙ ap (first_among (nest_faults nothing ms)) (first-none (order_of ms))
