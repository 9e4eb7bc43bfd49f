use Rattle.std.proofs.Common.{◌≡◌, ◌++◌, ◌∷◌, [], List, reverse, subst}
use Rattle.std.specs.Prelude.{if◌then◌else◌}
use Rattle.affine_systems.specs.declared.row.System.{System}
use Rattle.region_sets.specs.Within.{within_one}
use Rattle.region_sets.specs.Trim.{sifted}
use Rattle.region_sets.proofs.TrimSteps.{sift_back, less_fit}
use Rattle.region_sets.proofs.trimming.sifted.Goals as goal

pub loop-s-preserved : goal.loop-s-preserved
loop-s-preserved c =
    let kept = c.loop-s.kept.items in
    let new = c.push_apart.new.kept.items in
    let s = c.in-Some.s in
    let added = subst (λ (us : List System). new ≡ (if within_one (reverse us ++ reverse kept) s then kept else kept ++ s ∷ [])) c.as_slice.ensures.value c.in_ok-push_apart.ensures.added in
    record {
      same = sift_back c.loop-s.left.items c.pop.new.self.items kept new (sifted (reverse c.args.pieces.items) []) s c.in-Some.ensures.items added c.loop-s.invariant.same;
      fits = c.in_ok-push_apart.ensures.fits;
      each = less_fit c.loop-s.left.items c.pop.new.self.items s c.in-Some.ensures.items c.loop-s.invariant.each;
    }
