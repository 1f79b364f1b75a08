-- What contracts see of a statement that was read.
use Rattle.base_core.specs.declared.name.User.{User}
use Rattle.reader_core.specs.declared.statement.Statement.{Statement}

-- who says what
pub record Saying : Type 0 where
  pub user : User
  pub statement : Statement
