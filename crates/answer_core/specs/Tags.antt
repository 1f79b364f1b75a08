-- What CommandComplete tells of a statement (PostgreSQL's protocol 3.0, "Message Formats").
use Rattle.std.specs.Prelude.{ℕ, List, ◌++◌, codes, decimal}
use Rattle.reader_core.specs.declared.statement.Statement.{Statement}
use Rattle.reader_core.specs.declared.statement.Statement.TheVariants as statements
use Rattle.answer_core.specs.declared.tag.Tag.{Tag}
use Rattle.answer_core.specs.declared.tag.Tag.TheVariants as tags

-- the kind of a statement
abbrev pub tag_of : Statement → Tag
tag_of (statements.CreateTable table columns) = tags.CreateTable
tag_of (statements.Insert table values) = tags.Insert
tag_of (statements.Select list table filter) = tags.Select
tag_of (statements.Delete table filter) = tags.Delete
tag_of (statements.Update table sets filter) = tags.Update
tag_of (statements.Grant privileges table users option) = tags.Grant
tag_of (statements.Revoke privileges table users) = tags.Revoke
tag_of (statements.RevokeOption privileges table users) = tags.Revoke
tag_of statements.Checkpoint = tags.Checkpoint
tag_of statements.Checkpoints = tags.Select
tag_of (statements.Export number only) = tags.Select

-- The text of the tag. Of rows it tells how many were sent; of UPDATE and DELETE no number, since that
-- would tell who lacks SELECT how many rows there are.
abbrev pub tag_text : Tag → ℕ → List ℕ
tag_text tags.CreateTable count = codes "CREATE TABLE"
tag_text tags.Insert count = codes "INSERT 0 1"
tag_text tags.Update count = codes "UPDATE"
tag_text tags.Delete count = codes "DELETE"
tag_text tags.Grant count = codes "GRANT"
tag_text tags.Revoke count = codes "REVOKE"
tag_text tags.Checkpoint count = codes "CHECKPOINT"
tag_text tags.Select count = codes "SELECT " ++ decimal count
