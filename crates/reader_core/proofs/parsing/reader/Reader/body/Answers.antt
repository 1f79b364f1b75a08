use Rattle.std.proofs.Common.{refl}
use Rattle.base_core.specs.declared.keyword.Keyword.TheVariants as keywords
use Rattle.reader_core.proofs.Exits.{exits}
use Rattle.reader_core.proofs.Beginning.{begun, no_keyword, other_keyword}
use Rattle.reader_core.proofs.parsing.reader.Reader.body.Goals as goal

pub returns-in_err-peek_keyword-clause-reads : goal.returns-in_err-peek_keyword-clause-reads
returns-in_err-peek_keyword-clause-reads c =
    exits _ _ _ _ _ _ _ c.from_residual.ensures.1 (no_keyword c.args.self.now c.in_err-peek_keyword.field-0.0 c.in_err-peek_keyword.ensures.err)

pub returns-in-Create-clause-reads : goal.returns-in-Create-clause-reads
returns-in-Create-clause-reads c = begun _ _ _ _ _ _ keywords.Create (λ g. refl) (λ g. refl) c.in_ok-peek_keyword.ensures.kind c.in-Create.is c.create.ensures.reads

pub returns-in-Insert-clause-reads : goal.returns-in-Insert-clause-reads
returns-in-Insert-clause-reads c = begun _ _ _ _ _ _ keywords.Insert (λ g. refl) (λ g. refl) c.in_ok-peek_keyword.ensures.kind c.in-Insert.is c.insert.ensures.reads

pub returns-in-Select-clause-reads : goal.returns-in-Select-clause-reads
returns-in-Select-clause-reads c = begun _ _ _ _ _ _ keywords.Select (λ g. refl) (λ g. refl) c.in_ok-peek_keyword.ensures.kind c.in-Select.is c.select.ensures.reads

pub returns-in-Delete-clause-reads : goal.returns-in-Delete-clause-reads
returns-in-Delete-clause-reads c = begun _ _ _ _ _ _ keywords.Delete (λ g. refl) (λ g. refl) c.in_ok-peek_keyword.ensures.kind c.in-Delete.is c.delete.ensures.reads

pub returns-in-Update-clause-reads : goal.returns-in-Update-clause-reads
returns-in-Update-clause-reads c = begun _ _ _ _ _ _ keywords.Update (λ g. refl) (λ g. refl) c.in_ok-peek_keyword.ensures.kind c.in-Update.is c.update.ensures.reads

pub returns-in-Grant-clause-reads : goal.returns-in-Grant-clause-reads
returns-in-Grant-clause-reads c = begun _ _ _ _ _ _ keywords.Grant (λ g. refl) (λ g. refl) c.in_ok-peek_keyword.ensures.kind c.in-Grant.is c.grant.ensures.reads

pub returns-in-Revoke-clause-reads : goal.returns-in-Revoke-clause-reads
returns-in-Revoke-clause-reads c = begun _ _ _ _ _ _ keywords.Revoke (λ g. refl) (λ g. refl) c.in_ok-peek_keyword.ensures.kind c.in-Revoke.is c.revoke.ensures.reads

pub returns-in-Checkpoint-clause-reads : goal.returns-in-Checkpoint-clause-reads
returns-in-Checkpoint-clause-reads c = begun _ _ _ _ _ _ keywords.Checkpoint (λ g. refl) (λ g. refl) c.in_ok-peek_keyword.ensures.kind c.in-Checkpoint.is c.checkpoint.ensures.reads

pub returns-in-Checkpoints-clause-reads : goal.returns-in-Checkpoints-clause-reads
returns-in-Checkpoints-clause-reads c = begun _ _ _ _ _ _ keywords.Checkpoints (λ g. refl) (λ g. refl) c.in_ok-peek_keyword.ensures.kind c.in-Checkpoints.is c.checkpoints.ensures.reads

pub returns-in-Export-clause-reads : goal.returns-in-Export-clause-reads
returns-in-Export-clause-reads c = begun _ _ _ _ _ _ keywords.Export (λ g. refl) (λ g. refl) c.in_ok-peek_keyword.ensures.kind c.in-Export.is c.export.ensures.reads

pub returns-in_default : goal.returns-in_default
returns-in_default c = record {
  reads = other_keyword c.args.self.now c.fault.result c.in_ok-peek_keyword.field-0 c.in_ok-peek_keyword.ensures.kind (record {
    not_create = c.in_default.not-Create;
    not_insert = c.in_default.not-Insert;
    not_select = c.in_default.not-Select;
    not_delete = c.in_default.not-Delete;
    not_update = c.in_default.not-Update;
    not_grant = c.in_default.not-Grant;
    not_revoke = c.in_default.not-Revoke;
    not_checkpoint = c.in_default.not-Checkpoint;
    not_checkpoints = c.in_default.not-Checkpoints;
    not_export = c.in_default.not-Export;
  }) c.fault.ensures;
  well_formed = tt;
}
