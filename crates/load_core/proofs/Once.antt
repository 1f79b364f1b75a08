-- What lines load is one journal.
use Rattle.std.proofs.Common.{◌≡◌, ℕ, List, [], ◌∷◌, ◌++◌, sym, ap, subst, ◌∙◌}
use Rattle.base_core.specs.declared.limits.Limits.{Limits}
use Rattle.base_core.specs.declared.name.User.{User}
use Rattle.reader_core.specs.declared.statement.Statement.{Statement}
use Rattle.lines_core.specs.declared.line.TheConstants.{LONGEST_LINE}
use Rattle.system_core.specs.declared.machine.event.Entry.{Entry}
use Rattle.script_core.proofs.Addressed.{asked_once}
use Rattle.load_core.specs.Loading.{Loads}

same_entry : (d e : Entry) → d.pass ≡ e.pass → d.user ≡ e.user → d.statement ≡ e.statement → d ≡ e
same_entry d e pass user statement =
    ap (λ (p : ℕ). record d { pass = p }) pass
    ∙ ap (λ (u : User). record e { user = u; statement = d.statement }) user
    ∙ ap (λ (s : Statement). record e { statement = s }) statement

pub loads_once : (limits : Limits) (before one other : List Entry) (ls : List (List ℕ)) → Loads limits before ls one → Loads limits before ls other → one ≡ other
loads_once limits before one other [] a b = a ∙ sym b
loads_once limits before one other (line ∷ ls) (e, says, more) (d, said, also) =
    let same = asked_once LONGEST_LINE line d.user e.user d.statement e.statement said.says.asks says.says.asks in
    let entry : d ≡ e = same_entry d e (said.says.pass ∙ sym says.says.pass) same.0 same.1 in
    loads_once limits (before ++ e ∷ []) one other ls more (subst (λ (x : Entry). Loads limits (before ++ x ∷ []) ls other) entry also)
