-- What may be processed next, over the infos of the functions before it: lemmas of shader_analysis, for a caller that names one crate.
use Rattle.shader_analysis.proofs.Growing as growing
use Rattle.shader_analysis.specs.Growth.{EntryCanBeProcessed, InfosGrow, NextCanBeProcessed, NoneAreStored}

pub next_can_be_processed : NextCanBeProcessed
next_can_be_processed = growing.next_can_be_processed

pub entry_can_be_processed : EntryCanBeProcessed
entry_can_be_processed = growing.entry_can_be_processed

pub infos_grow : InfosGrow
infos_grow = growing.infos_grow

pub none_are_stored : NoneAreStored
none_are_stored = growing.none_are_stored
