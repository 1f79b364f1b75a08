use Rattle.std.specs.Prelude.{Some}
use Rattle.serving_core.proofs.serving.serve_sessions.Given as goal

-- the instance of this server's sessions: its desk, and its entrance
abbrev pub ghosts-serve_through : goal.ghosts-serve_through
ghosts-serve_through g a = record { desk = Some a.desk.now; by = a.entrance.now }
