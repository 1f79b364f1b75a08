use Rattle.std.proofs.Common.{◌≡◌, ◌++◌, ℕ, List, length}
use Rattle.login_core.specs.Users.{WholeLines}
use Rattle.login_core.proofs.user_file.read_users.Given as goal

-- what was read so far is whole lines, of the users so far, and behind it stands what is left
abbrev pub invariant-loop-line : goal.invariant-loop-line
invariant-loop-line l = (front : List ℕ) × (l.text ≡ front ++ l.rest) × WholeLines front l.users

abbrev pub decreases-loop-line : goal.decreases-loop-line
decreases-loop-line l = length l.rest
