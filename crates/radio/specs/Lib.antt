-- `Hears` is what a text comes to, however it is divided, as W-212 writes it. `Radio` is what each call does, byte by byte; `Answer` what a closing call's answer
-- stands for. That both are one is proofs/Meets.antt.
pub mod Answer
pub mod Radio
pub mod Hears
