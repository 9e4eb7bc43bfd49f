-- Each module of a program has its marks, and they are those that are looked up by its name.
use Rattle.std.proofs.Common.{◌≡◌, ℕ, zero, suc, ◌-◌, Bool, true, false, List, [], ◌∷◌, length, map, Some, arith, refl, ap, sym, ◌∙◌, subst}
use Rattle.std.specs.Prelude.{bytes_eq, slice_get, reverse, if◌then◌else◌}
use Rattle.std.proofs.lemmas.Slice.Eq.{bytes_eq-Decides}
use Rattle.std.proofs.lemmas.List.{reverse-reverse}
use Rattle.f77_ast.specs.DeclTrees.{ParsedTree}
use Rattle.f77_ast.specs.Symbols.{SymbolTree}
use Rattle.f77_ast.specs.declared.variable.Unit.{Unit as BlockUnit}
use Rattle.call_graph.specs.declared.graph.Graph.{Graph}
use Rattle.f77_meaning.specs.Modules.{Known, known_of}
use Rattle.in_out_regions.specs.effects.List as effects
use Rattle.in_out_regions.specs.array_regions.Calls.{Callees}
use Rattle.pipsmake_base.specs.module_phases.ScalarPhases.{Analysis, analyses}
use Rattle.pipsmake_base.specs.module_phases.RegionPhases.{ModuleRegions, no_callees, with_callee, with_regions, found_in, all_regions}
use Rattle.pipsmake_base.specs.module_phases.InPhases.{ModuleIns, all_ins}
use Rattle.pipsmake_base.specs.module_phases.InPhases as ins
use Rattle.pipsmake_base.specs.module_phases.OutPhases.{ModuleOuts, all_outs}
use Rattle.pipsmake_base.specs.loop_marker.Results.{ModuleResults}
use Rattle.pipsmake_base.specs.loop_marker.Phases.{phases_of, analysis_in, all_marks}
use Rattle.pipsmake_base.specs.loop_marker.Phases as marks
use Rattle.laws_programs.specs.Programs.{AreTables}
use Rattle.laws_bounds.specs.laws_analyses.Coverage.{AreWhole}
use Rattle.pips_top.specs.Program.{ProgramTree}
use Rattle.pipsmake_base.specs.pipsmake_meaning.ResultEntries.{results_for}
use Rattle.pips_top.specs.Shown.{results_of_program}
use Rattle.pips_top.proofs.Said.{name_of, back, known_from, said_at, ins_at, outs_at, said_once}

-- ---- one that has this one

-- some element is made of by this
abbrev IsFrom : {A B : Type 0} → (A → B) → List A → B → Type 0
IsFrom {A} h xs b = (j : ℕ) × (a : A) × (slice_get xs j ≡ Some a) × (h a ≡ b)

abbrev IsIn : {A : Type 0} → List A → A → Type 0
IsIn xs a = (j : ℕ) × (slice_get xs j ≡ Some a)

from_map : {A B : Type 0} (h : A → B) (xs : List A) (j : ℕ) (b : B) → slice_get (map h xs) j ≡ Some b → IsFrom h xs b
from_map h [] j b e = cc
from_map h (x ∷ xs) zero b e = let same : h x ≡ b = cc in (zero, x, refl, same)
from_map h (x ∷ xs) (suc j) b e = let f = from_map h xs j b e in (suc f.0, f.1, f.2, f.3)

from_all : {A B : Type 0} (h : A → B) (xs : List A) (bs : List B) (b : B) → map h xs ≡ bs → IsIn bs b → IsFrom h xs b
from_all h xs bs b e i = from_map h xs i.0 b (subst (λ ys. slice_get ys i.0 ≡ Some b) (sym e) i.1)

reversed : {A : Type 0} (xs : List A) (a : A) → IsIn xs a → IsIn (reverse xs) a
reversed xs a i = (length (reverse xs) - 1 - i.0, (back (reverse xs) i.0 a (subst (λ ys. slice_get ys i.0 ≡ Some a) (sym (reverse-reverse xs)) i.1)).1)

-- ---- none is left out

regions_all : (u : List BlockUnit) (cs : Callees) (as' : List Analysis) → map (λ (f : ModuleRegions). f.analysis) (found_in u cs as') ≡ as'
regions_all u cs [] = refl
regions_all u cs (a ∷ as') = ap (λ xs. a ∷ xs) (regions_all u (with_callee (with_regions u cs a) cs) as')

ins_all : (u : List BlockUnit) (cs : Callees) (fs : List ModuleRegions) → map (λ (f : ModuleIns). f.known) (ins.found_in u cs fs) ≡ fs
ins_all u cs [] = refl
ins_all u cs (r ∷ fs) = ap (λ xs. r ∷ xs) (ins_all u (ins.with_callee (ins.with_ins u cs r) cs) fs)

marks_all : (u : List BlockUnit) (cs : effects.Callees) (fs : List ModuleOuts) → map phases_of (marks.found_in u cs fs) ≡ fs
marks_all u cs [] = refl
marks_all u cs (x ∷ fs) = ap (λ xs. x ∷ xs) (marks_all u (marks.with_callee (marks.with_marks u cs x) cs) fs)

-- an analysis has its marks
abbrev Marked : Graph → List Analysis → Analysis → Type 0
Marked g as' a = (j : ℕ) × (f : ModuleResults) × (slice_get (all_marks g (all_outs g (all_ins g (all_regions g as')))) j ≡ Some f) × (analysis_in (phases_of f) ≡ a)

marked : (g : Graph) (as' : List Analysis) (j : ℕ) (a : Analysis) → slice_get as' j ≡ Some a → Marked g as' a
marked g as' j a e =
    let rs = all_regions g as' in
    let is = all_ins g rs in
    let os = all_outs g is in
    let r = from_all (λ (f : ModuleRegions). f.analysis) rs (reverse as') a (regions_all g.untracked no_callees (reverse as')) (reversed as' a (j, e)) in
    let i = from_all (λ (f : ModuleIns). f.known) is rs r.1 (ins_all g.untracked no_callees rs) (r.0, r.2) in
    let o = from_all (λ (f : ModuleOuts). f.known) os (reverse is) i.1 (known_from g [] (reverse is)) (reversed is i.1 (i.0, i.2)) in
    let m = from_all phases_of (all_marks g os) (reverse os) o.1 (marks_all g.untracked marks.no_callees (reverse os)) (reversed os o.1 (o.0, o.2)) in
    (m.0, m.1, m.2, ap analysis_in m.3 ∙ ap (λ (x : ModuleIns). x.known.analysis) o.3 ∙ ap (λ (x : ModuleRegions). x.analysis) i.3 ∙ r.3)

-- ---- modules

-- no name has two
abbrev pub Once : List ModuleResults → Type 0
Once all = (i j : ℕ) (a b : ModuleResults) → slice_get all i ≡ Some a → slice_get all j ≡ Some b → name_of a ≡ name_of b → i ≡ j

-- so each is that of its name
pub own_found : (all : List ModuleResults) → Once all → (j : ℕ) (a : ModuleResults) → slice_get all j ≡ Some a → results_for all (name_of a) ≡ Some a
own_found [] once j a e = cc
own_found (b ∷ all) once zero a e =
    let same : b ≡ a = cc in
    let it : bytes_eq (name_of b) (name_of a) ≡ true = (bytes_eq-Decides (name_of b) (name_of a)).1 (ap name_of same) in
    ap (λ t. if t then Some b else results_for all (name_of a)) it ∙ ap Some same
own_found (b ∷ all) once (suc j) a e = go (bytes_eq (name_of b) (name_of a)) refl (own_found all (λ i k c d f g h. omega (arith, once (suc i) (suc k) c d f g h)) j a e)
  where
    go : (t : Bool) → bytes_eq (name_of b) (name_of a) ≡ t → results_for all (name_of a) ≡ Some a → (if t then Some b else results_for all (name_of a)) ≡ Some a
    go true q ih = absurd (omega (arith, once zero (suc j) b a refl e ((bytes_eq-Decides (name_of b) (name_of a)).0 q)))
    go false q ih = ih

-- the marks of a module, which are looked up by its name
pub record IsOwn (p : ProgramTree) (k : Known) : Type 0 where
  pub place : ℕ
  pub found : ModuleResults
  pub there : slice_get (results_of_program p) place ≡ Some found
  pub known : found.known ≡ k
  pub own : results_for (results_of_program p) k.read.name ≡ Some found

pub each_own : (p : ProgramTree) → AreWhole (known_of p.modules p.tables) (analyses (known_of p.modules p.tables) p.graph) → (i : ℕ) (k : Known) → slice_get (known_of p.modules p.tables) i ≡ Some k → IsOwn p k
each_own p whole i k e =
    let as' = analyses (known_of p.modules p.tables) p.graph in
    let a = whole.each i k e in
    let m = marked p.graph as' a.0 a.1 a.2 in
    let known : m.1.known ≡ k = ap (λ (x : Analysis). x.found.known) m.3 ∙ a.3 in
    record {
      place = m.0;
      found = m.1;
      there = m.2;
      known = known;
      own = subst (λ (x : Known). results_for (results_of_program p) x.read.name ≡ Some m.1) known (own_found (results_of_program p) (λ j l b c f g h. said_once p.graph as' whole.once j l b c f g h) m.0 m.1 m.2);
    }

-- a module with its table
pub known_there : (ms : List ParsedTree) (ts : List (List SymbolTree)) (i : ℕ) (m : ParsedTree) → AreTables ms ts → slice_get ms i ≡ Some m
    → (ss : List SymbolTree) × (slice_get (known_of ms ts) i ≡ Some (record { read = m.module_read; symbols = ss }))
known_there [] ts i m h e = cc
known_there (x ∷ ms) [] i m h e = absurd h
known_there (x ∷ ms) (t ∷ ts) zero m h e = let same : x ≡ m = cc in (t, ap (λ (y : ParsedTree). Some (record { read = y.module_read; symbols = t })) same)
known_there (x ∷ ms) (t ∷ ts) (suc i) m h e = known_there ms ts i m h.1 e

-- each that is said is of a module
pub known_back : (p : ProgramTree) → AreWhole (known_of p.modules p.tables) (analyses (known_of p.modules p.tables) p.graph) → (j : ℕ) (f : ModuleResults) → slice_get (results_of_program p) j ≡ Some f
    → (i : ℕ) × (slice_get (known_of p.modules p.tables) i ≡ Some f.known)
known_back p whole j f e =
    let as' = analyses (known_of p.modules p.tables) p.graph in
    let rs = all_regions p.graph as' in
    let is = all_ins p.graph rs in
    let out = outs_at p.graph (all_outs p.graph is) j f e in
    let here = ins_at p.graph is out.0 (phases_of f) out.1 in
    let at = said_at p.graph as' here.0 (phases_of f).known here.1 in
    whole.modules at.0 (analysis_in (phases_of f)) at.1
