-- What is known of a line that the desk has described.
use Rattle.std.proofs.Common.{◌≡◌, ℕ, Bool, false, List, Ok, sym, subst, ◌∙◌}
use Rattle.base_core.specs.declared.name.User.{User}
use Rattle.base_core.specs.declared.value.Column.{Column}
use Rattle.reader_core.specs.Language.{Spells}
use Rattle.reader_core.specs.declared.statement.Statement.{Statement}
use Rattle.parameters_core.specs.Statements.{is_empty_statement}
use Rattle.parameters_core.specs.Filling.{IsFilled, ones}
use Rattle.desk_core.specs.Guarded.{DeskLock, DeskPass}
use Rattle.asking_core.specs.Asking.{DescribesLine}
use Rattle.asking_core.specs.declared.describing.Described.{Described}
use Rattle.preparing_core.specs.declared.describing.Found.TheVariants as founds
use Rattle.preparing_core.specs.Guessing.{DescribesStatement}
use Rattle.preparing_core.specs.Shapes.{DescribesRows, IsFound, shape_of, shaped}

-- a statement is described as its line with ones is
pub statement_described : {K : Type 0} (desk : DeskLock K) (user : User) (statement line slice : List ℕ) (is_empty : Bool) (old new : DeskPass K) (told found : Described) → is_empty ≡ is_empty_statement statement → is_empty ≡ false → IsFilled statement ones line → slice ≡ line
    → DescribesLine desk user slice old told new → told ≡ found → DescribesStatement desk user statement old found new
statement_described desk user statement line slice is_empty old new told found means not_empty filled same tells is = record {
  says_something = sym means ∙ not_empty;
  line = line;
  is_filled = filled;
  describes = subst (λ (f : Described). DescribesLine desk user line old f new) is (subst (λ (bytes : List ℕ). DescribesLine desk user bytes old told new) same tells);
}

-- the rows of a line that says this statement, where these columns were found
pub shaped_by : {K : Type 0} (desk : DeskLock K) (user : User) (line : List ℕ) (asked : Statement) (columns : List Column) (old new : DeskPass K) (told : Described) → IsFound told (founds.Columns columns)
    → DescribesLine desk user line old told new → Spells line asked → DescribesRows desk user line old (Ok (shape_of asked columns)) new
shaped_by desk user line asked columns old new told found tells says =
    shaped (subst (λ (f : Described). DescribesLine desk user line old f new) found.1 tells) says
