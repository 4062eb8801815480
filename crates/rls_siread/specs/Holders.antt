-- How the holders of one object are kept: nobody and one of them take no memory of their own.
use Rattle.std.specs.Prelude.{[], ◌∷◌}
use Rattle.rls_siread.specs.declared.holders.Txns.{Txns}
use Rattle.rls_siread.specs.declared.holders.Txns.TheVariants.{Nobody, One, More}
use Rattle.rls_siread.specs.Index.{HolderList}

-- the transactions, and how many more fit without memory
abbrev pub holder_list_of : Txns → HolderList
holder_list_of Nobody = record { txns = []; room = 1 }
holder_list_of (One txn) = record { txns = txn ∷ []; room = 0 }
holder_list_of (More queue) = queue
