-- What operations that ask the cache leave, from what their calls left.
use Rattle.std.proofs.Common.{ℕ}
use Rattle.sd_vtree.specs.Numbered.{IsUnder}
use Rattle.sd_cache.specs.Entries.{Answers}
use Rattle.sd_manager.specs.Table.{Table}
use Rattle.sd_manager.specs.Valid.{IsTable}
use Rattle.sd_apply.specs.declared.recent.Recent.{Recent}
use Rattle.sd_apply.specs.Serving.{Serves}
use Rattle.sd_apply.specs.Places.{IsThere, IsBelow}
use Rattle.sd_apply.specs.Steps.{IsStepAt}
use Rattle.sd_apply.specs.CachedSteps.{IsCachedStep}
use Rattle.sd_manager.proofs.Extending.{extends_self}
use Rattle.sd_apply.proofs.Growing.{both_none, both_first, both_second, both_exchanged, both_lowest}

-- where the table did not change
pub looked_step : {t : Table} {c : Answers} (a b : ℕ) → IsTable t → Serves c t → IsCachedStep t t c a b
looked_step {t} {c} a b table serves = record {
  kept = extends_self t;
  grown = both_none t a b;
  serves = serves;
  table = table;
}

-- a step at the lowest vtree node over both operands
pub lowest_step : {old new : Table} {r : Recent} {c : Answers} (p a b : ℕ) → IsTable old →
    ((n : ℕ) → IsThere old.vtree n → IsBelow old n a → IsBelow old n b → IsUnder old.vtree p n) →
    IsStepAt old new r p → Serves c new → IsCachedStep old new c a b
lowest_step {old} {new} {r} {c} p a b i lowest f serves = record {
  kept = f.kept;
  grown = both_lowest old new f.kept i.numbered p a b lowest f.grown;
  serves = serves;
  table = f.table;
}

-- what one operand alone allows
pub first_step : {old new : Table} {c : Answers} {a : ℕ} (b : ℕ) → IsCachedStep old new c a a →
    IsCachedStep old new c a b
first_step {old} {new} {c} {a} b f = record {
  kept = f.kept;
  grown = both_first old new a b f.grown;
  serves = f.serves;
  table = f.table;
}

pub second_step : {old new : Table} {c : Answers} {b : ℕ} (a : ℕ) → IsCachedStep old new c b b →
    IsCachedStep old new c a b
second_step {old} {new} {c} {b} a f = record {
  kept = f.kept;
  grown = both_second old new a b f.grown;
  serves = f.serves;
  table = f.table;
}

-- the operands may be exchanged
pub exchanged_step : {old new : Table} {c : Answers} {a b : ℕ} → IsCachedStep old new c a b →
    IsCachedStep old new c b a
exchanged_step {old} {new} {c} {a} {b} f = record {
  kept = f.kept;
  grown = both_exchanged old new a b f.grown;
  serves = f.serves;
  table = f.table;
}
