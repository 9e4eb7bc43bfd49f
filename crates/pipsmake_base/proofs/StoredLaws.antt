-- Stored values are values of results.
use Rattle.std.proofs.Common.{◌≡◌, Some, sym, ap}
use Rattle.pipsmake_db.specs.base_values.declared.stored.StoredValue.TheVariants as stored
use Rattle.pipsmake_db.specs.base_values.declared.stored.StoredValue.{StoredValue}
use Rattle.pipsmake_db.specs.pipsmake_meaning.Values.{Value, source, parsed, lines, symbols, graph, effects, transformers, preconditions, regions, ins, outs, marks, printed}
use Rattle.pipsmake_db.specs.Shown.{stored_in}
use Rattle.pipsmake_base.specs.Saved.{value_in}

one : (a b : StoredValue) → Some a ≡ Some b → a ≡ b
one a b e = cc

pub stored_back : (v : Value) (s : StoredValue) → stored_in v ≡ Some s → value_in s ≡ v
stored_back (source x) s e = cc
stored_back (parsed x) s e = cc
stored_back (lines x) s e = cc
stored_back (symbols x) s e = cc
stored_back (graph x) s e = cc
stored_back (effects x) s e = let same : stored.Effects x ≡ s = one (stored.Effects x) s e in ap value_in (sym same)
stored_back (transformers x) s e = let same : stored.Transformers x ≡ s = one (stored.Transformers x) s e in ap value_in (sym same)
stored_back (preconditions x) s e = let same : stored.Preconditions x ≡ s = one (stored.Preconditions x) s e in ap value_in (sym same)
stored_back (regions x) s e = let same : stored.Regions x ≡ s = one (stored.Regions x) s e in ap value_in (sym same)
stored_back (ins x) s e = let same : stored.InRegions x ≡ s = one (stored.InRegions x) s e in ap value_in (sym same)
stored_back (outs x) s e = let same : stored.OutRegions x ≡ s = one (stored.OutRegions x) s e in ap value_in (sym same)
stored_back (marks x) s e = let same : stored.Marks x ≡ s = one (stored.Marks x) s e in ap value_in (sym same)
stored_back (printed x) s e = cc
