use Rattle.rls_meaning.proofs.Meaning.{statement_told}
use Rattle.rls_meaning.proofs.laws.statement_means.Goals as goal

pub returns : goal.returns
returns c =
    statement_told (record {
      select = c.select_means.ensures;
      insert = c.insert_means.ensures;
      update = c.update_means.ensures;
      delete = c.delete_means.ensures;
      grantor = c.grantor_means.ensures.grantor;
      memberships = record { managed = c.memberships_mean.ensures.managed; circle = c.memberships_mean.ensures.circle };
    })
