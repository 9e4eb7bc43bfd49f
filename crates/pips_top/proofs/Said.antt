-- The modules of which something is said are those of the analyses, in their order.
use Rattle.std.proofs.Common.{◌≡◌, ℕ, zero, suc, ◌-◌, ◌<◌, List, [], ◌∷◌, length, get_or, ◌++◌, map, Some, arith, ap, refl, sym, ◌∙◌, subst, append_assoc, append-nil}
use Rattle.std.specs.Prelude.{slice_get, reverse}
use Rattle.std.proofs.lemmas.List.{get_or-reverse, length-reverse}
use Rattle.std.proofs.lemmas.Option.{slice_get_within, get_or_from_slice_get, slice_get-get_or}
use Rattle.call_graph.specs.declared.graph.Graph.{Graph}
use Rattle.f77_ast.specs.declared.variable.Unit.{Unit as BlockUnit}
use Rattle.pipsmake_base.specs.module_phases.ScalarPhases.{Analysis}
use Rattle.in_out_regions.specs.array_regions.Calls.{Callees}
use Rattle.pipsmake_base.specs.module_phases.RegionPhases.{ModuleRegions, no_callees, with_callee, with_regions, found_in, all_regions}
use Rattle.pipsmake_base.specs.module_phases.InPhases.{ModuleIns, all_ins}
use Rattle.pipsmake_base.specs.module_phases.InPhases as ins
use Rattle.pipsmake_base.specs.module_phases.OutPhases.{ModuleOuts, with_outs, sites_of, outs_from, all_outs}
use Rattle.pipsmake_base.specs.module_phases.OutPhases as outs
use Rattle.in_out_regions.specs.effects.List as effects
use Rattle.pipsmake_base.specs.loop_marker.Results.{ModuleResults}
use Rattle.pipsmake_base.specs.loop_marker.Phases.{phases_of, known_in, marks_found, all_marks}
use Rattle.pipsmake_base.specs.loop_marker.Phases as marks

abbrev pub name_of : ModuleResults → List ℕ
name_of f = f.known.read.name

-- each has its analysis
in_order : (u : List BlockUnit) (cs : Callees) (as' : List Analysis) (j : ℕ) (f : ModuleRegions) → slice_get (found_in u cs as') j ≡ Some f → slice_get as' j ≡ Some f.analysis
in_order u cs [] j f e = cc
in_order u cs (a ∷ as') zero f e = let same : with_regions u cs a ≡ f = cc in ap (λ (g : ModuleRegions). Some g.analysis) same
in_order u cs (a ∷ as') (suc j) f e = in_order u (with_callee (with_regions u cs a) cs) as' j f e

pub back : {A : Type 0} (xs : List A) (j : ℕ) (x : A) → slice_get (reverse xs) j ≡ Some x → (j < length xs) × (slice_get xs (length xs - 1 - j) ≡ Some x)
back xs j x e =
    let l : j < length xs = subst (λ n. j < n) (length-reverse xs) (slice_get_within (reverse xs) j x e) in
    let g : get_or xs (length xs - 1 - j) x ≡ x = sym (get_or-reverse xs j x l) ∙ get_or_from_slice_get (reverse xs) j x x e in
    (l, slice_get-get_or xs (length xs - 1 - j) x (omega (arith, l)) ∙ ap Some g)

-- each has its READ and WRITE regions
ins_order : (u : List BlockUnit) (cs : Callees) (fs : List ModuleRegions) (j : ℕ) (f : ModuleIns) → slice_get (ins.found_in u cs fs) j ≡ Some f → slice_get fs j ≡ Some f.known
ins_order u cs [] j f e = cc
ins_order u cs (r ∷ fs) zero f e = let same : ins.with_ins u cs r ≡ f = cc in ap (λ (n : ModuleIns). Some n.known) same
ins_order u cs (r ∷ fs) (suc j) f e = ins_order u (ins.with_callee (ins.with_ins u cs r) cs) fs j f e

pub regions_at : (g : Graph) (fs : List ModuleRegions) (j : ℕ) (f : ModuleIns) → slice_get (all_ins g fs) j ≡ Some f → slice_get fs j ≡ Some f.known
regions_at g fs j f e = ins_order g.untracked no_callees fs j f e

-- and its analysis
analysed : (g : Graph) (as' : List Analysis) (j : ℕ) (f : ModuleIns) → slice_get (all_ins g (all_regions g as')) j ≡ Some f → slice_get (reverse as') j ≡ Some f.known.analysis
analysed g as' j f e = in_order g.untracked no_callees (reverse as') j f.known (regions_at g (all_regions g as') j f e)

-- which is one of those of the program
pub said_at : (g : Graph) (as' : List Analysis) (j : ℕ) (f : ModuleIns) → slice_get (all_ins g (all_regions g as')) j ≡ Some f → (i : ℕ) × (slice_get as' i ≡ Some f.known.analysis)
said_at g as' j f e = (length as' - 1 - j, (back as' j f.known.analysis (analysed g as' j f e)).1)

-- where no name has two analyses it has no two
ins_once : (g : Graph) (as' : List Analysis) → ((i j : ℕ) (a b : Analysis) → slice_get as' i ≡ Some a → slice_get as' j ≡ Some b → a.found.known.read.name ≡ b.found.known.read.name → i ≡ j)
    → (i j : ℕ) (a b : ModuleIns) → slice_get (all_ins g (all_regions g as')) i ≡ Some a → slice_get (all_ins g (all_regions g as')) j ≡ Some b → outs.name_of a ≡ outs.name_of b → i ≡ j
ins_once g as' once i j a b e f h =
    let p = back as' i a.known.analysis (analysed g as' i a e) in
    let q = back as' j b.known.analysis (analysed g as' j b f) in
    let same = once (length as' - 1 - i) (length as' - 1 - j) a.known.analysis b.known.analysis p.1 q.1 h in
    omega (arith, p.0, q.0, same)

-- ---- with their OUT regions, in the opposite order

known_at : (fs : List ModuleOuts) (j : ℕ) (f : ModuleOuts) → slice_get fs j ≡ Some f → slice_get (map (λ (x : ModuleOuts). x.known) fs) j ≡ Some f.known
known_at [] j f e = cc
known_at (x ∷ fs) zero f e = let same : x ≡ f = cc in ap (λ (y : ModuleOuts). Some y.known) same
known_at (x ∷ fs) (suc j) f e = known_at fs j f e

abbrev pub all_known : List ModuleOuts → List ModuleIns
all_known fs = map (λ (x : ModuleOuts). x.known) fs

known_more : (done : List ModuleOuts) (f : ModuleOuts) → all_known (done ++ f ∷ []) ≡ all_known done ++ f.known ∷ []
known_more [] f = refl
known_more (x ∷ done) f = ap (λ fs. x.known ∷ fs) (known_more done f)

pub known_from : (g : Graph) (done : List ModuleOuts) (fs : List ModuleIns) → all_known (outs_from g done fs) ≡ all_known done ++ fs
known_from g done [] = sym (append-nil (all_known done))
known_from g done (f ∷ fs) =
    let new = with_outs g (sites_of g.untracked done (outs.name_of f)) f in
    known_from g (done ++ new ∷ []) fs ∙ (ap (λ xs. xs ++ fs) (known_more done new) ∙ append_assoc (all_known done) (f ∷ []) fs)

-- each has its IN regions
ins_back : (g : Graph) (fs : List ModuleIns) (j : ℕ) (f : ModuleOuts) → slice_get (all_outs g fs) j ≡ Some f → (j < length fs) × (slice_get fs (length fs - 1 - j) ≡ Some f.known)
ins_back g fs j f e = back fs j f.known (subst (λ xs. slice_get xs j ≡ Some f.known) (known_from g [] (reverse fs)) (known_at (all_outs g fs) j f e))

pub ins_at : (g : Graph) (fs : List ModuleIns) (j : ℕ) (f : ModuleOuts) → slice_get (all_outs g fs) j ≡ Some f → (i : ℕ) × (slice_get fs i ≡ Some f.known)
ins_at g fs j f e = (length fs - 1 - j, (ins_back g fs j f e).1)

-- and where no name has two analyses it has no two
outs_once : (g : Graph) (as' : List Analysis) → ((i j : ℕ) (a b : Analysis) → slice_get as' i ≡ Some a → slice_get as' j ≡ Some b → a.found.known.read.name ≡ b.found.known.read.name → i ≡ j)
    → (i j : ℕ) (a b : ModuleOuts) → slice_get (all_outs g (all_ins g (all_regions g as'))) i ≡ Some a → slice_get (all_outs g (all_ins g (all_regions g as'))) j ≡ Some b
    → (known_in a).read.name ≡ (known_in b).read.name → i ≡ j
outs_once g as' once i j a b e f h =
    let fs = all_ins g (all_regions g as') in
    let p = ins_back g fs i a e in
    let q = ins_back g fs j b f in
    let same = ins_once g as' once (length fs - 1 - i) (length fs - 1 - j) a.known b.known p.1 q.1 h in
    omega (arith, p.0, q.0, same)

-- ---- with the marks of their loops, in the first order again

-- each has its OUT regions, and its marks are those found by some effects
record Marked (untracked : List BlockUnit) (fs : List ModuleOuts) (j : ℕ) (f : ModuleResults) : Type 0 where
  outs : slice_get fs j ≡ Some (phases_of f)
  marks : f.marks ≡ marks_found untracked (phases_of f) f.effects

marked_order : (u : List BlockUnit) (cs : effects.Callees) (fs : List ModuleOuts) (j : ℕ) (f : ModuleResults) → slice_get (marks.found_in u cs fs) j ≡ Some f → Marked u fs j f
marked_order u cs [] j f e = cc
marked_order u cs (x ∷ fs) zero f e =
    let same : marks.with_marks u cs x ≡ f = cc in
    let first : Marked u (x ∷ fs) zero (marks.with_marks u cs x) = record { outs = refl; marks = refl } in
    subst (Marked u (x ∷ fs) zero) same first
marked_order u cs (x ∷ fs) (suc j) f e =
    let m = marked_order u (marks.with_callee (marks.with_marks u cs x) cs) fs j f e in
    record { outs = m.outs; marks = m.marks }

marked_at : (g : Graph) (fs : List ModuleOuts) (j : ℕ) (f : ModuleResults) → slice_get (all_marks g fs) j ≡ Some f → Marked g.untracked (reverse fs) j f
marked_at g fs j f e = marked_order g.untracked marks.no_callees (reverse fs) j f e

pub marks_are : (g : Graph) (fs : List ModuleOuts) (j : ℕ) (f : ModuleResults) → slice_get (all_marks g fs) j ≡ Some f → f.marks ≡ marks_found g.untracked (phases_of f) f.effects
marks_are g fs j f e = (marked_at g fs j f e).marks

outs_back : (g : Graph) (fs : List ModuleOuts) (j : ℕ) (f : ModuleResults) → slice_get (all_marks g fs) j ≡ Some f → (j < length fs) × (slice_get fs (length fs - 1 - j) ≡ Some (phases_of f))
outs_back g fs j f e = back fs j (phases_of f) (marked_at g fs j f e).outs

pub outs_at : (g : Graph) (fs : List ModuleOuts) (j : ℕ) (f : ModuleResults) → slice_get (all_marks g fs) j ≡ Some f → (i : ℕ) × (slice_get fs i ≡ Some (phases_of f))
outs_at g fs j f e = (length fs - 1 - j, (outs_back g fs j f e).1)

-- and where no name has two analyses it has no two
pub said_once : (g : Graph) (as' : List Analysis) → ((i j : ℕ) (a b : Analysis) → slice_get as' i ≡ Some a → slice_get as' j ≡ Some b → a.found.known.read.name ≡ b.found.known.read.name → i ≡ j)
    → (i j : ℕ) (a b : ModuleResults) → slice_get (all_marks g (all_outs g (all_ins g (all_regions g as')))) i ≡ Some a → slice_get (all_marks g (all_outs g (all_ins g (all_regions g as')))) j ≡ Some b
    → name_of a ≡ name_of b → i ≡ j
said_once g as' once i j a b e f h =
    let fs = all_outs g (all_ins g (all_regions g as')) in
    let p = outs_back g fs i a e in
    let q = outs_back g fs j b f in
    let same = outs_once g as' once (length fs - 1 - i) (length fs - 1 - j) (phases_of a) (phases_of b) p.1 q.1 h in
    omega (arith, p.0, q.0, same)
