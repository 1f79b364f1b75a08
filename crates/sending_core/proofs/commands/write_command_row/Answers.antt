use Rattle.std.proofs.Common.{◌≤◌, length, pos, sym, subst, arith}
use Rattle.base_core.specs.Streams.{MayWriteText}
use Rattle.messages_core.specs.Rows.{number_value}
use Rattle.messages_core.specs.declared.rows.Format.{Format}
use Rattle.messages_core.specs.declared.rows.Format.TheVariants as formats
use Rattle.utility_core.specs.declared.command.Command.{Command}
use Rattle.answer_core.proofs.Sizes.{place_short}
use Rattle.sending_core.specs.CommandTexts.{cell_message, command_cell}
use Rattle.sending_core.proofs.commands.write_command_row.Goals as goal

-- the number 1 is short in both formats
one_short : (f : Format) → length (number_value f (pos 1)) ≤ 10
one_short formats.Text = place_short 1 (omega arith)
one_short formats.Binary = omega arith

pub write_cell-requires-clause-short : goal.write_cell-requires-clause-short
write_cell-requires-clause-short g c = omega (arith, one_short c.args.format)

pub returns-in-Version : goal.returns-in-Version
returns-in-Version g c =
    subst (λ (k : Command). MayWriteText g.W.Sink.failed g.W.Sink.taken (cell_message (command_cell k c.args.format)) c.write_text-in-Version.result c.args.writer.now c.write_text-in-Version.new.writer)
    (sym c.in-Version.is) c.write_text-in-Version.ensures
