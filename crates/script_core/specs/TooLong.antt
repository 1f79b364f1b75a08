-- Lines that are too long are answered alike.
use Rattle.std.specs.Prelude.{◌≡◌, ◌<◌, ℕ, List, length, Err}
use Rattle.std.proofs.Common.{arith, sym, ◌∙◌}
use Rattle.std.proofs.lemmas.Bool.Decides.{nat_tests}
use Rattle.base_core.specs.declared.name.User.{User}
use Rattle.lexer_core.specs.declared.fault.Code.{Code}
use Rattle.lexer_core.specs.declared.fault.Code.TheVariants as codes
use Rattle.lexer_core.specs.declared.lexer.TheConstants.{MAX_LINE}
use Rattle.reader_core.specs.declared.statement.Statement.{Statement}
use Rattle.lines_core.specs.declared.line.TheConstants.{LONGEST_LINE}
use Rattle.system_core.specs.World.{World}
use Rattle.script_core.specs.Addressed.{addressed_up_to, IsAddressed, Asks, IsFaulty, address, statement}
use Rattle.script_core.specs.Script.{AnswersLine, Answers, faulty, said, unread}
use Rattle.journal_core.specs.Recorder.{WithKeeper}
use Rattle.journal_core.specs.declared.keeper.Keeper.{Ghosts}
use Rattle.script_core.specs.Keeping.{AnswersKept, over, answered, withheld}

-- ---- a line that may have so many bytes
module _ (most : ℕ) (line : List ℕ) (h : most < length line) where
  pub address-too_long : addressed_up_to most line ≡ Err (codes.TooLong, most)
  address-too_long = grind (arith, nat_tests)

  pub addressed-too_long : IsAddressed most line → ⊥
  addressed-too_long a = let l = address-too_long in let s = a.2 in cc

  pub asks-too_long : (user : User) (asked : Statement) → Asks most line user asked → ⊥
  asks-too_long user asked a = let l = address-too_long in let s = a.speaker in cc

pub fault-too_long : (most : ℕ) (line other : List ℕ) (code : Code) (offset : ℕ)
    → most < length line
    → most < length other
    → IsFaulty most line code offset
    → IsFaulty most other code offset
fault-too_long most line other _ _ h k (address e) =
    address (address-too_long most other k ∙ sym (address-too_long most line h) ∙ e)
fault-too_long most line other _ _ h k (statement user start offset e f) =
    let l = address-too_long most line h in cc

-- ---- a script's
pub AnswersLine-too_long : (old new : World) (line other text : List ℕ)
    → MAX_LINE < length line
    → MAX_LINE < length other
    → AnswersLine old line text new
    → AnswersLine old other text new
AnswersLine-too_long old _ line other _ h k (faulty {code} {offset} f) =
    faulty (fault-too_long MAX_LINE line other code offset h k f)
AnswersLine-too_long old new line other _ h k (said user asked reply a step tells) =
    absurd (asks-too_long MAX_LINE line h user asked a)
AnswersLine-too_long old _ line other _ h k (unread a) =
    absurd (addressed-too_long MAX_LINE line h a)

pub Answers-too_long : (old new : World) (line other text : List ℕ)
    → LONGEST_LINE < length line
    → LONGEST_LINE < length other
    → Answers old line text new
    → Answers old other text new
Answers-too_long old new line other text h k a = record {
  first = a.first;
  mid = a.mid;
  second = a.second;
  answered = AnswersLine-too_long old a.mid line other a.first
      (omega (arith, h)) (omega (arith, k)) a.answered;
  followed = a.followed;
  text_is = a.text_is;
}

pub AnswersKept-too_long : {K : Type 0} (rules : Ghosts K)
    (old new : WithKeeper K) (line other text : List ℕ)
    → LONGEST_LINE < length line
    → LONGEST_LINE < length other
    → AnswersKept rules old line text new
    → AnswersKept rules old other text new
AnswersKept-too_long rules old _ line other _ h k (over o) = over o
AnswersKept-too_long rules old new line other text h k (answered o n a kept) =
    answered o n (Answers-too_long old.world new.world line other text h k a) kept
AnswersKept-too_long rules old new line other _ h k (withheld {text} o n a lost) =
    withheld o n (AnswersLine-too_long old.world new.world line other text
    (omega (arith, h)) (omega (arith, k)) a) lost
