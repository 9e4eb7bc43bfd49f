-- Sizes of blocks in a map by their names.
use Rattle.std.specs.Prelude.{ℕ, List, map, Vec}
use Rattle.std.specs.BTreeMap.{BTreeMap}
use Rattle.std.specs.declared.alloc.Global.{Global}
use Rattle.call_graph.specs.declared.graph.Block.{Block}
use Rattle.call_graph.specs.Blocks.{block}

abbrev pub entry_block : Vec ℕ Global × ℕ → Block
entry_block e = block e.0.items e.1

-- the entries of the map as blocks, in its order
abbrev pub sized : BTreeMap (Vec ℕ Global) ℕ → List Block
sized m = map entry_block m.entries
