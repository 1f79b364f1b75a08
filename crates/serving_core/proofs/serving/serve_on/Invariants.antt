use Rattle.serving_core.proofs.serving.serve_on.Given as goal

-- the token of this server
abbrev pub ghosts-serve_sessions : goal.ghosts-serve_sessions
ghosts-serve_sessions g a = record { name = a.blank.name; parts = a.blank.parts }
