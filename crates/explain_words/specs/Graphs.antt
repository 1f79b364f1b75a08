-- Colours of graphs, as Graphviz reads them.
use Rattle.std.specs.Prelude.{ℕ, List, [], codes}
use Rattle.explain_words.specs.declared.dot.Part.{Part}
use Rattle.explain_words.specs.declared.dot.Part.TheVariants as parts

-- the colour of an edge: of a right that is held, and of one that was lost
abbrev pub colour : Part → List ℕ
colour parts.Beside = []
colour parts.Holds = codes ", color=blue"
colour parts.Lost = codes ", color=red"
