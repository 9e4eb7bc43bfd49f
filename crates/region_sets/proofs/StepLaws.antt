-- The sets of statements, at the beginning of their list.
use Rattle.std.proofs.Common.{◌≡◌, ℕ, ℤ, List, [], ◌∷◌, ◌++◌, map, Bool, true, false, refl, sym, subst, ⊎_elim}
use Rattle.std.specs.Prelude.{if◌then◌else◌}
use Rattle.affine_systems.specs.declared.row.System.{System}
use Rattle.f77_ast.specs.Trees.{StmtTrees}
use Rattle.hull_projection.proofs.ProjectLaws.{project_keeps}
use Rattle.f77_ast.specs.declared.variable.Unit.{Unit as BlockUnit}
use Rattle.transformers.specs.transformer_algebra.declared.transformer.Transformer.{Transformer}
use Rattle.transformers.specs.transformer_algebra.Halves.{cell_vars}
use Rattle.transformers.specs.transformer_algebra.Transformers.{without}
use Rattle.transformers.specs.transformer_algebra.Laws.{In, here, there}
use Rattle.transformers.specs.transformer_algebra.Claims.{Scene, Kept}
use Rattle.transformers.specs.Jumps.{unstructured}
use Rattle.transformers.specs.Lists.{list_at}
use Rattle.transformers.proofs.TransformerAlgebra.RuleLaws.{old_point, old_off}
use Rattle.region_sets.specs.declared.region.Access.{Access}
use Rattle.region_sets.specs.declared.region.Region.{Region}
use Rattle.region_sets.specs.Compose.{compose}
use Rattle.region_sets.specs.Sets.{unite_all}
use Rattle.region_sets.specs.Lists.{all_composed, in_order, forgetting, all_forgetting, all_accesses, inexact, in_any_order, numbers, list_regions}
use Rattle.region_sets.specs.Claims.{Describes, DescribedBy, Places, LiesIn, IsSharp, IsSharpSet, arrived, past, no_more, before_more}
use Rattle.region_sets.specs.Laws.{HasSteps, HasStepsAlone, HasAnyStep, NoneExact, HasList, HasListAlone}
use Rattle.region_sets.proofs.DescribedLaws.{moved, moved_cells, moved_are}
pub use Rattle.region_sets.proofs.TrimLaws.{in_either, in_map, of_map}
use Rattle.region_sets.proofs.PieceLaws.{compose_moves, compose_sharp}
use Rattle.region_sets.proofs.SetLaws.{gathered_units, gathered_sharp}
use Rattle.fx_lists.proofs.Booleans.{clash as clashes}
use Rattle.transformers.proofs.TransformerAlgebra.Members.{in_left, in_right}

-- ---- in order

abbrev IsSharpOf : Scene → Places → (ℕ → ℤ) → (Access → ℕ → Bool) → Region → Type 0
IsSharpOf m at x accessed r = IsSharp m (at r.variable) r x (accessed r.kind)

pub order_units : (t : ℕ → Transformer) (f : ℕ → List Region) (ns : List ℕ) → HasSteps t f ns (in_order t f ns)
order_units t f [] m at o k n x y u r l = elim r [ ]
order_units t f (j ∷ ns) m at o k n x y u arrived l =
    gathered_units (f j ++ all_composed (t j) (in_order t f ns)) m at o k x u
    (record { region = l.region; is_one = in_left l.region (f j) (all_composed (t j) (in_order t f ns)) l.is_one; kind = l.kind; lies = l.lies })
order_units t f (j ∷ ns) m at o k n x y u (past {y = z} d r) l =
    let w = order_units t f ns m at o k n z y u r l in
    gathered_units (f j ++ all_composed (t j) (in_order t f ns)) m at o k x u
    (record {
      region = compose w.region (t j);
      is_one = in_right (compose w.region (t j)) (f j) (all_composed (t j) (in_order t f ns)) (in_map (λ (q : Region). compose q (t j)) w.region (in_order t f ns) w.is_one);
      kind = w.kind;
      lies = compose_moves w.region (t j) m (at w.region.variable) x z d u w.lies;
    })

pub order_sharp : (t : ℕ → Transformer) (f : ℕ → List Region) (ns : List ℕ) → HasStepsAlone t f ns (in_order t f ns)
order_sharp t f [] m at o x accessed no_more = λ r i. elim i [ ]
order_sharp t f (n ∷ ns) m at o x accessed (before_more {y = y} s d a) =
    let rest = in_order t f ns in
    let later : IsSharpSet m at (all_composed (t n) rest) x accessed =
    of_map (λ (q : Region). compose q (t n)) (λ (r : Region). IsSharpOf m at x accessed r) rest
    (λ q i. compose_sharp q (t n) m (at q.variable) x y d (accessed q.kind) (order_sharp t f ns m at o y accessed a q i)) in
    gathered_sharp (f n ++ all_composed (t n) rest) m at o x accessed
    (λ r i. ⊎_elim (λ j. s r j) (λ j. later r j) (in_either r (f n) (all_composed (t n) rest) i))

-- ---- in any order

pub forgotten_describes : (m : Scene) (cs : List ℕ) (s : System) (y n phi : ℕ → ℤ) → Describes s (moved m cs y n) phi → Describes (without cs s) n phi
forgotten_describes m cs s y n phi d p h ph = project_keeps s (cell_vars cs) (old_point m cs y p) p (λ w f. old_off m cs y p w f) (d (old_point m cs y p) (moved_cells m cs y n p h) (λ i. ph i))

pub forgotten_by : (m : Scene) (cs : List ℕ) (ss : List System) (y n phi : ℕ → ℤ) → DescribedBy ss (moved m cs y n) phi → DescribedBy (map (without cs) ss) n phi
forgotten_by m cs ss y n phi w = record { piece = without cs w.piece; is_one = in_map (without cs) w.piece ss w.is_one; holds = forgotten_describes m cs w.piece y n phi w.holds }

forgotten_lies : (m : Scene) (at : Places) (cs : List ℕ) (us : List BlockUnit) (r : Region) (x y : ℕ → ℤ) (u : ℕ) → Kept m cs us x y → LiesIn m (at r.variable) r y u → LiesIn m (at r.variable) (forgetting cs r) x u
forgotten_lies m at cs us r x y u k l = record { phi = l.phi; there = l.there; described = λ n a. forgotten_by m cs r.pieces y n l.phi (l.described (moved m cs y n) (moved_are m cs us x y n k a)) }

in_accesses : (f : ℕ → List Region) (n : ℕ) (ns : List ℕ) (r : Region) → In n ns → In r (f n) → In r (all_accesses f ns)
in_accesses f n [] r i h = elim i [ ]
in_accesses f n (j ∷ ns) r here h = in_left r (f n) (all_accesses f ns) h
in_accesses f n (j ∷ ns) r (there i) h = in_right r (f j) (all_accesses f ns) (in_accesses f n ns r i h)

pub any_units : (cs : List ℕ) (f : ℕ → List Region) (ns : List ℕ) → HasAnyStep cs f ns (in_any_order cs f ns)
any_units cs f ns m at o k n i us x y kept u l =
    let free = all_forgetting cs (all_accesses f ns) in
    let w = gathered_units free m at o k x u
    (record {
      region = forgetting cs l.region;
      is_one = in_map (forgetting cs) l.region (all_accesses f ns) (in_accesses f n ns l.region i l.is_one);
      kind = l.kind;
      lies = forgotten_lies m at cs us l.region x y u kept l.lies;
    }) in
    let z = w.lies in
    record {
      region = inexact w.region;
      is_one = in_map inexact w.region (unite_all free) w.is_one;
      kind = w.kind;
      lies = record { phi = z.phi; there = z.there; described = z.described };
    }

pub any_inexact : (cs : List ℕ) (f : ℕ → List Region) (ns : List ℕ) → NoneExact (in_any_order cs f ns)
any_inexact cs f ns = of_map inexact (λ (r : Region). r.exact ≡ false) (unite_all (all_forgetting cs (all_accesses f ns))) (λ q i. refl)

-- ---- a list

pub at_true : (b : Bool) (qs rs : List Region) → b ≡ true → (if b then qs else rs) ≡ qs
at_true true qs rs e = refl
at_true false qs rs e = clashes false e refl

pub at_false : (b : Bool) (qs rs : List Region) → b ≡ false → (if b then qs else rs) ≡ rs
at_false true qs rs e = clashes true refl e
at_false false qs rs e = refl

pub list_sound : (t : ℕ → Transformer) (f : ℕ → List Region) (whole : Bool) (body : StmtTrees) → HasList t f whole body (list_regions t f whole body)
list_sound t f whole body =
    let ns = numbers body in
    let cs = (list_at t whole body).cells in
    record {
      in_order = λ e. subst (HasSteps t f ns) (sym (at_false (unstructured whole body) (in_any_order cs f ns) (in_order t f ns) e)) (order_units t f ns);
      in_any_order = λ e. subst (HasAnyStep cs f ns) (sym (at_true (unstructured whole body) (in_any_order cs f ns) (in_order t f ns) e)) (any_units cs f ns);
    }

pub list_sharp : (t : ℕ → Transformer) (f : ℕ → List Region) (whole : Bool) (body : StmtTrees) → HasListAlone t f whole body (list_regions t f whole body)
list_sharp t f whole body =
    let ns = numbers body in
    let cs = (list_at t whole body).cells in
    record {
      in_order = λ e. subst (HasStepsAlone t f ns) (sym (at_false (unstructured whole body) (in_any_order cs f ns) (in_order t f ns) e)) (order_sharp t f ns);
      in_any_order = λ e. subst NoneExact (sym (at_true (unstructured whole body) (in_any_order cs f ns) (in_order t f ns) e)) (any_inexact cs f ns);
    }
