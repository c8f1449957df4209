-- What the contract of an exported function allows is what that of magicyuv's function of its name allows, which the demands speak of
-- (crates/demands/specs/Demand.antt): so each of the demands holds of the calls of the exported functions. `Post` is the plain reading that Rattle itself makes
-- of the `ensures` clauses of src/. Assumes nothing.
use contract.Lifetimes.{Lfts}
use borrow.Fn.World.{ArgsD, ResD}
use denote.Triple.Clauses.{AtExit}
use Rattle.magicyuv_c.proofs.magicyuv_decode8.Reads as decode8_reads
use Rattle.magicyuv.specs.contracts.magicyuv_decode8 as own_decode8
use Rattle.magicyuv.proofs.magicyuv_decode8.Reads as own_decode8_reads
use Rattle.magicyuv_c.proofs.magicyuv_decode16.Reads as decode16_reads
use Rattle.magicyuv.specs.contracts.magicyuv_decode16 as own_decode16
use Rattle.magicyuv.proofs.magicyuv_decode16.Reads as own_decode16_reads
use Rattle.magicyuv_c.proofs.magicyuv_build.Reads as build_reads
use Rattle.magicyuv.specs.contracts.magicyuv_build as own_build
use Rattle.magicyuv.proofs.magicyuv_build.Reads as own_build_reads
use Rattle.magicyuv_c.proofs.magicyuv_read.Reads as read_reads
use Rattle.magicyuv.specs.contracts.magicyuv_read as own_read
use Rattle.magicyuv.proofs.magicyuv_read.Reads as own_read_reads

pub decode8_same : (κs : Lfts 4) (a : ArgsD own_decode8.signature κs) (r : ResD own_decode8.signature κs) (s : AtExit own_decode8.ended κs)
    → decode8_reads.Post κs a r s → own_decode8_reads.Post κs a r s
decode8_same κs a r s p = p

pub decode16_same : (κs : Lfts 4) (a : ArgsD own_decode16.signature κs) (r : ResD own_decode16.signature κs) (s : AtExit own_decode16.ended κs)
    → decode16_reads.Post κs a r s → own_decode16_reads.Post κs a r s
decode16_same κs a r s p = p

pub build_same : (κs : Lfts 2) (a : ArgsD own_build.signature κs) (r : ResD own_build.signature κs) (s : AtExit own_build.ended κs)
    → build_reads.Post κs a r s → own_build_reads.Post κs a r s
build_same κs a r s p = p

pub read_same : (κs : Lfts 4) (a : ArgsD own_read.signature κs) (r : ResD own_read.signature κs) (s : AtExit own_read.ended κs)
    → read_reads.Post κs a r s → own_read_reads.Post κs a r s
read_same κs a r s p = p
