pub mod NoPrograms
